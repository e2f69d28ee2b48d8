-- The head and the body of a term of a value.
use Rattle.std.proofs.Common.{◌≡◌, ℕ, suc, false, List, [], ◌∷◌, length, Some, None, refl, sym, ap, ◌∙◌, codes, bytes_eq, if◌then◌else◌}
use Rattle.plterm.specs.Tree.{Tree, compound, list_of, trees}
use Rattle.platoms.specs.Names.{functor_name}
use Rattle.plclause.specs.Clausal.{neck_parts}
use Rattle.plcells.specs.declared.cell.Cell.{Cell}
use Rattle.plcells.specs.declared.cell.Cell.TheVariants.{Free, Lone, Ref, Int, Wide, Atom, Str, Fun, Ground}
use Rattle.plcells.specs.Store.{Store, term, terms, value, IsBlock, IsEnd, IsHeap}
use Rattle.plgoals.proofs.Converting.{terms-length}
use Rattle.plgoals.proofs.Shapes.{end-variable}

-- no compound has none
pub end-no-neck : (h : Store) (w : Cell) (t : Tree) → IsHeap h → IsEnd h w → ((p : ℕ) → w ≡ Str p → ⊥) → value h w ≡ t → neck_parts t ≡ None
end-no-neck h (Free p) t is end blocks same = absurd end
end-no-neck h (Lone p) t is end blocks same = absurd end
end-no-neck h (Ref j) t is end blocks same = let x = end-variable h j is end in ap neck_parts (sym same ∙ x.1)
end-no-neck h (Int n) t is end blocks same = ap neck_parts (sym same)
end-no-neck h (Wide p) t is end blocks same = ap neck_parts (sym same)
end-no-neck h (Atom a) t is end blocks same = ap neck_parts (sym same)
end-no-neck h (Str p) t is end blocks same = absurd (blocks p refl)
end-no-neck h (Fun f) t is end blocks same = absurd end
end-no-neck h (Ground f) t is end blocks same = absurd end

other-count : (s : List ℕ) (us : List Tree) → (length (list_of (trees us)) ≡ 2 → ⊥) → neck_parts (compound s (trees us)) ≡ None
other-count s [] other = refl
other-count s (a ∷ []) other = refl
other-count s (a ∷ b ∷ []) other = absurd (other refl)
other-count s (a ∷ b ∷ c ∷ us) other = refl

other-name : (s : List ℕ) (us : List Tree) → bytes_eq s (codes ":-") ≡ false → neck_parts (compound s (trees us)) ≡ None
other-name s [] other = refl
other-name s (a ∷ []) other = refl
other-name s (a ∷ b ∷ []) other = ap (λ x. if x then Some (a, b) else None) other
other-name s (a ∷ b ∷ c ∷ us) other = refl

-- a compound of another number of arguments, and one of another name
module _ (h : Store) (p f k : ℕ) (block : IsBlock h p f k) (t : Tree) (same : term h p ≡ t) where
  pub block-no-two : (k ≡ 2 → ⊥) → neck_parts t ≡ None
  block-no-two other = ap neck_parts (sym same ∙ block.is) ∙ other-count (functor_name h.names f) (terms h (suc p) k) (λ e. other (sym (terms-length h (suc p) k) ∙ e))

  pub block-no-neck : bytes_eq (functor_name h.names f) (codes ":-") ≡ false → neck_parts t ≡ None
  block-no-neck other = ap neck_parts (sym same ∙ block.is) ∙ other-name (functor_name h.names f) (terms h (suc p) k) other
