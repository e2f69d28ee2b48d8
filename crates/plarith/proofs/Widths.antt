-- Integers against bounds, as the code tests them.
use Rattle.std.proofs.Common.{◌≡◌, ℕ, zero, suc, ◌^◌, ◌<◌, ◌≤◌, ℤ, pos, negsuc, neg_ℤ, true, false, Err, of_z, w64, refl, arith}
use Rattle.std.proofs.lemmas.Bool.{ltb-true, ltb-false, true≢false}
use Rattle.std.specs.Prelude.{unsigned_abs, int_lt}
use Rattle.plarith.specs.declared.error.ArithError.TheVariants.{IntOverflow}
use Rattle.plarith.specs.Errors.{Evaluated}
use Rattle.plarith.specs.Operations.{fitting, divided}

pub natural : (y : ℤ) → int_lt y (pos 0) ≡ false → y ≡ pos (unsigned_abs y)
natural (pos n) h = refl
natural (negsuc n) h = absurd (true≢false h)

pub at_least : (k : ℕ) (y : ℤ) → int_lt y (pos k) ≡ false → k ≤ unsigned_abs y
at_least k (pos n) h = ltb-false n k h
at_least k (negsuc n) h = absurd (true≢false h)

pub below : (k : ℕ) (y : ℤ) → int_lt y (pos 0) ≡ false → int_lt y (pos k) ≡ true → unsigned_abs y < k
below k (pos n) h l = ltb-true n k l
below k (negsuc n) h l = absurd (true≢false h)

pub too_great : (m : ℕ) → 2 ^ 63 ≤ m → fitting (pos m) ≡ Err IntOverflow
too_great m h = grind arith

below_all : (n : ℕ) → 2 ^ 63 ≤ n → fitting (negsuc n) ≡ Err IntOverflow
below_all n h = grind arith

pub too_small : (m : ℕ) → 2 ^ 63 < m → fitting (neg_ℤ (pos m)) ≡ Err IntOverflow
too_small zero h = absurd (omega arith)
too_small (suc m) h = below_all m (omega arith)

pub some : (y : ℤ) → (of_z w64 y ≡ 0 → ⊥) → 0 < unsigned_abs y
some (pos n) h = omega (arith, h)
some (negsuc n) h = omega arith

pub divided_is : (y : ℤ) (r : Evaluated) → (of_z w64 y ≡ 0 → ⊥) → divided y r ≡ r
divided_is (pos zero) r h = absurd (h refl)
divided_is (pos (suc n)) r h = refl
divided_is (negsuc n) r h = refl
