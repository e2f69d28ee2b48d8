-- A unification under a mark of its own, with the boundary as it was before.
use Rattle.std.proofs.Common.{◌≡◌, ℕ, zero, suc, ◌≤◌, None, length, refl, sym, ap, ap₂, ◌∙◌, le_trans}
use Rattle.plsubst.specs.Subst.{bind}
use Rattle.plsubst.specs.Unify.{unify}
use Rattle.plcells.specs.declared.cell.Cell.{Cell}
use Rattle.plcells.specs.declared.cell.Cell.TheVariants.{Free, Lone, Ref, Int, Wide, Atom, Str, Fun, Ground}
use Rattle.plcells.specs.declared.cell.Mark.{Mark}
use Rattle.plcells.specs.Store.{Store, at, term_in, term, value, IsValue, cut, IsWithin, renamed, bounded_by, Keeps}
use Rattle.plcells.proofs.Terms.{shown-same}
use Rattle.plbind.specs.Unifying.{Unified, KeepsAll}

term_in-bounded : (h : Store) (b n c : ℕ) → term_in (bounded_by h b) n c ≡ term_in h n c
unfolding term_in
term_in-bounded h b zero c = refl
term_in-bounded h b (suc n) c = shown-same h (term_in (bounded_by h b) n) (term_in h n) c (at h.cells c) (λ d r. term_in-bounded h b n d)

pub term-bounded : (h : Store) (b c : ℕ) → term (bounded_by h b) c ≡ term h c
unfolding term
term-bounded h b c = term_in-bounded h b (length h.cells) c

pub value-bounded : (h : Store) (b : ℕ) (v : Cell) → value (bounded_by h b) v ≡ value h v
value-bounded h b (Free p) = refl
value-bounded h b (Lone p) = refl
value-bounded h b (Ref j) = term-bounded h b j
value-bounded h b (Int n) = refl
value-bounded h b (Wide p) = refl
value-bounded h b (Atom a) = refl
value-bounded h b (Str p) = term-bounded h b p
value-bounded h b (Fun f) = shown-same h (term (bounded_by h b)) (term h) 0 (Fun f) (λ d r. term-bounded h b d)
value-bounded h b (Ground f) = shown-same h (term (bounded_by h b)) (term h) 0 (Ground f) (λ d r. term-bounded h b d)

values-bounded : (h : Store) (b : ℕ) (v : Cell) → IsValue h v → IsValue (bounded_by h b) v
values-bounded h b v f = f

module _ (h new : Store) (b : ℕ) (le : h.boundary ≤ b) where
  kept_under : Keeps (bounded_by h b) new → Keeps h (bounded_by new h.boundary)
  unfolding cut
  kept_under k = record {
    within = λ m w. let x = k.within m (up m w) in record { old = w.old; cells = x.cells; trail = x.trail; numbers = x.numbers; wide = x.wide };
    kept = λ m w. k.kept m (up m w);
    names = k.names;
  }
    where
      up : (m : Mark) → IsWithin m h → IsWithin m (bounded_by h b)
      up m w = record { old = le_trans w.old le; cells = w.cells; trail = w.trail; numbers = w.numbers; wide = w.wide }

  pub unified-under : (s t : Cell) → Unified (bounded_by h b) new (value (bounded_by h b) s) (value (bounded_by h b) t) → Unified h (bounded_by new h.boundary) (value h s) (value h t)
  unified-under s t u = record {
    unifier = u.unifier;
    is = ap₂ unify (sym (value-bounded h b s)) (sym (value-bounded h b t)) ∙ u.is;
    made = record {
      terms = λ c lt. term-bounded new h.boundary c ∙ u.made.terms c lt ∙ ap (bind u.unifier) (term-bounded h b c);
      values = λ v f.
          let r = u.made.values v f in
          (r.0, value-bounded new h.boundary v ∙ r.1 ∙ ap (bind u.unifier) (value-bounded h b v));
      fresh = u.made.fresh;
      apart = u.made.apart;
      keeps = kept_under u.made.keeps;
      length = u.made.length;
      names = u.made.names;
    };
  }

pub none-under : (h : Store) (b : ℕ) (s t : Cell) → unify (value (bounded_by h b) s) (value (bounded_by h b) t) ≡ None → unify (value h s) (value h t) ≡ None
none-under h b s t e = ap₂ unify (sym (value-bounded h b s)) (sym (value-bounded h b t)) ∙ e

-- the mark's cells are all that there were
pub mark-all : (m : Mark) (h marked : Store) → cut m marked ≡ marked → marked ≡ bounded_by h (length h.cells) → m.cells ≡ length h.cells
unfolding cut
mark-all m h marked now same = let e : m.cells ≡ marked.boundary = ap (λ x. x.boundary) now in e ∙ ap (λ x. x.boundary) same

pub given-back : (m : Mark) (h marked new undone back : Store) (b : ℕ) → cut m marked ≡ marked → marked ≡ bounded_by h (length h.cells) → IsWithin m marked → KeepsAll marked new → undone ≡ cut m new → back ≡ bounded_by undone b → b ≡ h.boundary → back ≡ h
given-back m h marked new undone back b now same within keeps undo forget is =
    forget
    ∙ ap₂ bounded_by (undo ∙ keeps.keeps.kept m within ∙ ap₂ renamed now keeps.names ∙ same) is
