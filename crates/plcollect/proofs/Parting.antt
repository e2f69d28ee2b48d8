-- Where a list is parted, what passes a test stands before the place, and the rest behind it.
use Rattle.std.proofs.Common.{◌≡◌, ℕ, zero, suc, ◌-◌, ◌≤◌, Bool, true, false, cond, List, [], ◌∷◌, length, take, drop, refl, ap, ◌∙◌, arith}
use Rattle.std.specs.Prelude.{filter, nat_lt, nat_le}
use Rattle.std.proofs.lemmas.Bool.Decides.{nat_tests}
use Rattle.std.proofs.lemmas.List.{take_all, length-drop}
use Rattle.std.specs.List.Sorted.{IsPartitionPoint}
use Rattle.plcollect.specs.declared.collection.Held.{Held}

module _ (p : Held → Bool) where
  abbrev Parts : List Held → ℕ → Type 0
  Parts ks i = IsPartitionPoint (λ k. p k ≡ true) (λ k. p k ≡ false) ks i

  behind : (k : Held) (ks : List Held) → Parts (k ∷ ks) 0 → Parts ks 0
  behind k ks point = ((λ i d low high. absurd (omega arith)), λ i d low high. point.1 (suc i) d (omega arith) (omega arith))

  after : (k : Held) (ks : List Held) (i : ℕ) → Parts (k ∷ ks) (suc i) → Parts ks i
  after k ks i point = ((λ j d low high. point.0 (suc j) d (omega arith) (omega arith)), λ j d low high. point.1 (suc j) d (omega arith) (omega arith))

  pub before : (ks : List Held) (i : ℕ) → i ≤ length ks → Parts ks i → filter p ks ≡ take i ks
  before [] zero le point = refl
  before [] (suc i) le point = refl
  before (k ∷ ks) zero le point =
      ap (λ b. cond b (k ∷ filter p ks) (filter p ks)) (point.1 0 k (omega arith) (omega arith)) ∙ before ks zero (omega arith) (behind k ks point)
  before (k ∷ ks) (suc i) le point =
      ap (λ b. cond b (k ∷ filter p ks) (filter p ks)) (point.0 0 k (omega arith) (omega arith)) ∙ ap (λ xs. k ∷ xs) (before ks i (omega arith) (after k ks i point))

  module _ (q : Held → Bool) (no : (k : Held) → p k ≡ true → q k ≡ false) (yes : (k : Held) → p k ≡ false → q k ≡ true) where
    pub rest : (ks : List Held) (i : ℕ) → i ≤ length ks → Parts ks i → filter q ks ≡ drop i ks
    rest [] zero le point = refl
    rest [] (suc i) le point = refl
    rest (k ∷ ks) zero le point =
        ap (λ b. cond b (k ∷ filter q ks) (filter q ks)) (yes k (point.1 0 k (omega arith) (omega arith))) ∙ ap (λ xs. k ∷ xs) (rest ks zero (omega arith) (behind k ks point))
    rest (k ∷ ks) (suc i) le point =
        ap (λ b. cond b (k ∷ filter q ks) (filter q ks)) (no k (point.0 0 k (omega arith) (omega arith))) ∙ rest ks i (omega arith) (after k ks i point)

pub whole : {A : Type 0} (i : ℕ) (xs : List A) → take (length xs - i) (drop i xs) ≡ drop i xs
whole i xs = take_all (length xs - i) (drop i xs) (omega (arith, length-drop i xs))

pub no-lower : (l d : ℕ) → nat_lt l d ≡ true → nat_le d l ≡ false
no-lower l d h = grind (arith, nat_tests)

pub yes-higher : (l d : ℕ) → nat_lt l d ≡ false → nat_le d l ≡ true
yes-higher l d h = grind (arith, nat_tests)
