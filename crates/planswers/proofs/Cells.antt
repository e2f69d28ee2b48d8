-- The first elements of lists on the heap.
use Rattle.std.proofs.Common.{◌≡◌, ℕ, zero, suc, ◌+◌, Bool, true, false, List, [], ◌∷◌, ◌++◌, map, refl, sym, ap, ap₂, ◌∙◌, arith}
use Rattle.std.proofs.lemmas.List.{append_assoc, append-nil, map-append}
use Rattle.std.specs.Prelude.{codes, if◌then◌else◌}
use Rattle.std.specs.Str.{bytes_eq}
use Rattle.plterm.specs.Tree.{Tree, compound, none, more, trees}
use Rattle.platoms.specs.Names.{atom_at, functor_name}
use Rattle.plcells.specs.declared.cell.Cell.{Cell}
use Rattle.plcells.specs.declared.cell.Cell.TheVariants.{Free, Lone, Ref, Int, Wide, Atom, Str, Fun, Ground}
use Rattle.plcells.specs.Store.{Store, term, terms, spread, value, IsValue, IsEnd, IsHeap, IsBlock}
use Rattle.plcells.specs.Walking.{weight}
use Rattle.plbuiltin.specs.Lists.{Elements, Tail, Empty, Other, ends, before, elements_of, elements_in}
use Rattle.planswers.specs.Lists.{IsCell, tail_at}
use Rattle.planswers.proofs.Roots.{variable_at}

-- some elements before others
abbrev pub joined : List Tree → Elements → Elements
joined ts es = record { items = ts ++ es.items; tail = es.tail }

no_element : (w : ℕ → Tree) (c k : ℕ) → (k ≡ 2 → ⊥) → elements_in (trees (spread w c k)) ≡ ends Other
unfolding elements_in
no_element w c zero other = refl
no_element w c (suc zero) other = refl
no_element w c (suc (suc zero)) other = absurd (other refl)
no_element w c (suc (suc (suc k))) other = refl

either_way : (b : Bool) (es : Elements) → es ≡ ends Other → (if b then es else ends Other) ≡ ends Other
either_way true es e = e
either_way false es e = refl

module _ (h : Store) (p f k : ℕ) (name : List ℕ) (block : IsBlock h p f k) (named : name ≡ functor_name h.names f) where
  shown : (j : ℕ) → k ≡ j → term h p ≡ compound name (trees (terms h (suc p) j))
  shown j e = block.is ∙ ap₂ (λ n i. compound n (trees (terms h (suc p) i))) (sym named) e

  pub cell_at : (v w : Cell) → k ≡ 2 → bytes_eq name (codes ".") ≡ true → IsValue h v → IsValue h w → value h v ≡ term h (p + 1) → value h w ≡ term h (p + 2) → IsCell h (term h p) v w
  unfolding elements_of weight
  cell_at v w two dot first_fits fits first_same same =
      let first : term h (suc p) ≡ value h v = ap (term h) (omega arith) ∙ sym first_same in
      let second : term h (suc (suc p)) ≡ value h w = ap (term h) (omega arith) ∙ sym same in
      let is : term h p ≡ compound name (more (value h v) (more (value h w) none)) = shown 2 two ∙ ap₂ (λ t u. compound name (more t (more u none))) first second in
      record {
        first_fits = first_fits;
        fits = fits;
        is = ap elements_of is ∙ ap (λ b. if b then before (value h v) (elements_of (value h w)) else ends Other) dot;
        lighter = omega (arith, ap weight is);
      }

  pub other_arity : (k ≡ 2 → ⊥) → elements_of (term h p) ≡ ends (tail_at (term h p))
  unfolding elements_of
  other_arity other =
      let is = shown k refl in
      ap elements_of is ∙ either_way (bytes_eq name (codes ".")) _ (no_element (term h) (suc p) k other) ∙ sym (ap (λ t. ends (tail_at t)) is)

  pub other_name : bytes_eq name (codes ".") ≡ false → elements_of (term h p) ≡ ends (tail_at (term h p))
  unfolding elements_of
  other_name other =
      let is = shown k refl in
      ap elements_of is ∙ ap (λ b. if b then elements_in (trees (terms h (suc p) k)) else ends Other) other ∙ sym (ap (λ t. ends (tail_at t)) is)

one_tail : (b : Bool) → (if b then ends Empty else ends Other) ≡ ends (if b then Empty else Other)
one_tail true = refl
one_tail false = refl

-- a value that is no compound
pub no_compound : (h : Store) (v : Cell) → IsHeap h → IsValue h v → IsEnd h v → ((p : ℕ) → v ≡ Str p → ⊥) → elements_of (value h v) ≡ ends (tail_at (value h v))
unfolding elements_of
no_compound h (Free p) is fits end other = absurd fits
no_compound h (Lone p) is fits end other = absurd fits
no_compound h (Ref j) is fits end other = let x = variable_at h j is fits.0 end in ap elements_of x.1 ∙ sym (ap (λ t. ends (tail_at t)) x.1)
no_compound h (Int n) is fits end other = refl
no_compound h (Wide p) is fits end other = refl
no_compound h (Atom a) is fits end other = one_tail (bytes_eq (atom_at h.names a) (codes "[]"))
no_compound h (Str p) is fits end other = absurd (other p refl)
no_compound h (Fun f) is fits end other = absurd fits
no_compound h (Ground f) is fits end other = absurd fits

-- with these items
abbrev elements : List Tree → Tail → Elements
elements ts tail = record { items = ts; tail = tail }

-- one more element, and none
pub joined-more : (h : Store) (vs : List Cell) (v : Cell) (es ds : Elements) → es ≡ before (value h v) ds → joined (map (value h) vs) es ≡ joined (map (value h) (vs ++ v ∷ [])) ds
joined-more h vs v es ds e =
    let items : map (value h) (vs ++ v ∷ []) ++ ds.items ≡ map (value h) vs ++ (value h v ∷ ds.items) = ap (λ ts. ts ++ ds.items) (map-append (value h) vs (v ∷ [])) ∙ append_assoc (map (value h) vs) (value h v ∷ []) ds.items in
    ap (joined (map (value h) vs)) e ∙ ap (λ ts. elements ts ds.tail) (sym items)

pub joined-end : (ts : List Tree) (tail : Tail) → joined ts (ends tail) ≡ record { items = ts; tail = tail }
joined-end ts tail = ap (λ us. elements us tail) (append-nil ts)
