-- A mark of a call's own, under which its work is done.
use Rattle.std.proofs.Common.{◌≡◌, ℕ, ◌≤◌, length, ap, ◌∙◌, sym, subst, le_trans}
use Rattle.plterm.specs.Tree.{Tree}
use Rattle.platoms.specs.Names.{IsTable, Extends as ExtendsNames}
use Rattle.plcells.specs.declared.cell.Cell.{Cell}
use Rattle.plcells.specs.Store.{cut as cut_heap}
use Rattle.plcells.proofs.Committing.{value-noted}
use Rattle.plcells.proofs.Renaming.{Preserves-renamed}
use Rattle.plenv.specs.declared.slot.Mark.{Mark}
use Rattle.plenv.specs.Env.{Env, IsEnv, cut, renamed, IsWithin}
use Rattle.plenv.specs.Changes.{bounded, Extends, Keeps, PutsTerm, Stays}
use Rattle.plenv.proofs.Bounding.{variable-bounded}
use Rattle.plenv.proofs.Putting.{stays-grown}

-- with the boundaries as they were before
module _ (e new : Env) (cells slots : ℕ) (more_cells : e.heap.boundary ≤ cells) (more_slots : e.boundary ≤ slots) where
  pub keeps_under : Keeps (bounded cells slots e) new → Keeps e (bounded e.heap.boundary e.boundary new)
  unfolding cut cut_heap
  keeps_under k = record {
    within = λ m w.
        let x = k.within m (up m w) in
        record {
          heap = record { old = w.heap.old; cells = x.heap.cells; trail = x.heap.trail; numbers = x.heap.numbers; wide = x.heap.wide };
          old = w.old;
          noted = x.noted;
        };
    kept = λ m w. k.kept m (up m w);
    names = k.names;
  }
    where
      up : (m : Mark) → IsWithin m e → IsWithin m (bounded cells slots e)
      up m w = record {
        heap = record { old = le_trans w.heap.old more_cells; cells = w.heap.cells; trail = w.heap.trail; numbers = w.heap.numbers; wide = w.heap.wide };
        old = le_trans w.old more_slots;
        noted = w.noted;
      }

  extends_under : IsEnv e → IsEnv new → Extends (bounded cells slots e) new → Extends e (bounded e.heap.boundary e.boundary new)
  extends_under is after x = record {
    values = λ v f.
        let up = value-noted e.heap e.heap.trail cells v f in
        let r = x.values v up.0 in
        let down = value-noted new.heap new.heap.trail e.heap.boundary v r.0 in
        (down.0, down.1 ∙ r.1 ∙ up.1);
    slots = x.slots;
    variables = λ i lt. variable-bounded new after e.heap.boundary e.boundary i (le_trans lt x.slots) ∙ x.variables i lt ∙ variable-bounded e is cells slots i lt;
    count = x.count;
    keeps = keeps_under x.keeps;
  }

  pub term-under : (v : Cell) (t : Tree) (k : ℕ) → IsEnv e → IsEnv new → PutsTerm (bounded cells slots e) new v t k → PutsTerm e (bounded e.heap.boundary e.boundary new) v t k
  term-under v t k is after puts =
      let down = value-noted new.heap new.heap.trail e.heap.boundary v puts.fits in
      record { fits = down.0; is = down.1 ∙ puts.is; extends = extends_under is after puts.extends; slots = puts.slots; count = puts.count }

-- the mark of all that is there
module _ (m : Mark) (e marked : Env) (now : cut m marked ≡ marked) (same : marked ≡ bounded (length e.heap.cells) (length e.slots) e) where
  pub mark-cells : m.heap.cells ≡ length e.heap.cells
  unfolding cut cut_heap
  mark-cells = let at : m.heap.cells ≡ marked.heap.boundary = ap (λ x. x.heap.boundary) now in at ∙ ap (λ x. x.heap.boundary) same

  pub mark-slots : m.slots ≡ length e.slots
  unfolding cut
  mark-slots = let at : m.slots ≡ marked.boundary = ap (λ x. x.boundary) now in at ∙ ap (λ x. x.boundary) same

  -- what came under it is taken back
  given_back : (new back : Env) → Keeps marked new → IsWithin m marked → back ≡ bounded e.heap.boundary e.boundary (cut m new) → back ≡ renamed e new.heap.names
  given_back new back keeps within is = is ∙ ap (bounded e.heap.boundary e.boundary) (keeps.kept m within ∙ ap (λ x. renamed x new.heap.names) (now ∙ same))

  pub back-stays : (new back : Env) → IsEnv e → IsTable new.heap.names → Keeps marked new → IsWithin m marked → back ≡ bounded e.heap.boundary e.boundary (cut m new) → Stays e back
  back-stays new back is table keeps within at =
      let kept = Preserves-renamed e.heap new.heap.names is.heap table (subst (λ x. ExtendsNames x.heap.names new.heap.names) same keeps.names) in
      subst (Stays e) (sym (given_back new back keeps within at)) (stays-grown e (renamed e new.heap.names).heap kept.values kept.keeps is.slots)

  pub back-renamed : (new back : Env) → Keeps marked new → IsWithin m marked → back ≡ bounded e.heap.boundary e.boundary (cut m new) → back ≡ renamed e back.heap.names
  back-renamed new back keeps within at = let given = given_back new back keeps within at in given ∙ ap (renamed e) (sym (ap (λ x. x.heap.names) given))
