-- A mark of a call's own, under which its work is done.
use Rattle.std.proofs.Common.{◌≡◌, ℕ, ◌≤◌, List, length, refl, sym, ap, ap₂, ◌∙◌, subst, le_trans}
use Rattle.plterm.specs.Tree.{Tree}
use Rattle.plterm.specs.Variables.{AllBelow}
use Rattle.plsubst.specs.Subst.{bind}
use Rattle.platoms.specs.Names.{Table, IsTable}
use Rattle.plcells.specs.declared.cell.Cell.{Cell}
use Rattle.plcells.specs.declared.cell.Mark.{Mark}
use Rattle.plcells.specs.Store.{Store, at, IsHeap, AreValues, cut, IsWithin, IsMark, IsKept, renamed, bounded_by, Keeps, Preserves}
use Rattle.plcells.specs.Putting.{standing, AddsNoVariable, PutsTerm}
use Rattle.plcells.proofs.Kept.{Keeps-refl, IsHeap-noted}
use Rattle.plcells.proofs.Committing.{term-noted, value-noted}
use Rattle.plcells.proofs.Given.{value-in}
use Rattle.plcells.proofs.Nodes.{bind-agree}
use Rattle.plcells.proofs.Renaming.{IsHeap-renamed}

-- a mark that is kept is one of the heap
pub kept-mark : (m : Mark) (h : Store) → IsTable h.names → IsKept m h → IsMark m h
unfolding cut
kept-mark m h table is = record {
  within = is.keeps.within m is.mark.within;
  heap = subst IsHeap (sym (is.keeps.kept m is.mark.within)) (IsHeap-renamed (cut m is.old) h.names is.mark.heap table is.keeps.names);
}

pub own-kept : (m : Mark) (h : Store) → IsMark m h → IsKept m h
own-kept m h is = record { old = h; mark = is; keeps = Keeps-refl h }

pub cut-bounded : (m : Mark) (h : Store) → bounded_by (cut m h) m.cells ≡ cut m h
unfolding cut
cut-bounded m h = refl

-- the mark of all that is there
module _ (m : Mark) (h marked : Store) (now : cut m marked ≡ marked) (same : marked ≡ bounded_by h (length h.cells)) where
  pub mark-cells : m.cells ≡ length h.cells
  unfolding cut
  mark-cells = let e : m.cells ≡ marked.boundary = ap (λ x. x.boundary) now in e ∙ ap (λ x. x.boundary) same

  pub marked-heap : IsMark m marked → IsHeap (bounded_by h (length h.cells))
  marked-heap is = subst IsHeap (now ∙ same) is.heap

  -- what came under it is taken back
  pub given-back : (new back : Store) (b : ℕ) → IsMark m marked → Keeps marked new → back ≡ bounded_by (cut m new) b → b ≡ h.boundary → back ≡ renamed h new.names
  given-back new back b is keeps cut_back at_b = cut_back ∙ ap₂ bounded_by (keeps.kept m is.within ∙ ap (λ x. renamed x new.names) (now ∙ same)) at_b

-- the heap with the boundary that it had
pub own-heap : (h : Store) → h.boundary ≤ length h.cells → IsHeap (bounded_by h (length h.cells)) → IsHeap h
own-heap h le is = IsHeap-noted (bounded_by h (length h.cells)) h.trail h.boundary is is.trailed le

pub own-names : (h back : Store) (t : Table) → back ≡ renamed h t → back ≡ renamed h back.names
own-names h back t e = e ∙ ap (renamed h) (sym (ap (λ x. x.names) e))

-- with the boundary as it was before
module _ (h new : Store) (b : ℕ) (le : h.boundary ≤ b) where
  kept-under : Keeps (bounded_by h b) new → Keeps h (bounded_by new h.boundary)
  unfolding cut
  kept-under k = record {
    within = λ m w. let x = k.within m (up m w) in record { old = w.old; cells = x.cells; trail = x.trail; numbers = x.numbers; wide = x.wide };
    kept = λ m w. k.kept m (up m w);
    names = k.names;
  }
    where
      up : (m : Mark) → IsWithin m h → IsWithin m (bounded_by h b)
      up m w = record { old = le_trans w.old le; cells = w.cells; trail = w.trail; numbers = w.numbers; wide = w.wide }

  pub preserves-under : Preserves (bounded_by h b) new → Preserves h (bounded_by new h.boundary)
  preserves-under p = record {
    longer = p.longer;
    terms = λ c lt. term-noted new new.trail h.boundary c ∙ p.terms c lt ∙ term-noted h h.trail b c;
    values = λ v f.
        let r = p.values v f in
        let s = value-noted new new.trail h.boundary v r.0 in
        (s.0, s.1 ∙ r.1 ∙ (value-noted h h.trail b v f).1);
    keeps = kept-under p.keeps;
  }

  pub adds-under : AddsNoVariable (bounded_by h b) new → AddsNoVariable h (bounded_by new h.boundary)
  adds-under a = record { preserves = preserves-under a.preserves; fresh = a.fresh; frees = a.frees }

  pub puts-under : (vs : List Cell) (v : Cell) (t : Tree) → AreValues h vs → AllBelow (length vs) t → PutsTerm (bounded_by h b) new v (bind (standing (bounded_by h b) vs) t) → PutsTerm h (bounded_by new h.boundary) v (bind (standing h vs) t)
  puts-under vs v t are below p =
      let s = value-noted new new.trail h.boundary v p.fits in
      record {
        fits = s.0;
        is = s.1 ∙ p.is ∙ bind-agree (length vs) (standing (bounded_by h b) vs) (standing h vs) (λ x lt. (value-noted h h.trail b (at vs x) (value-in h vs x _ (at vs x) are lt refl)).1) t below;
        adds = adds-under p.adds;
      }
