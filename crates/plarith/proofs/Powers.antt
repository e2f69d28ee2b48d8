-- Powers that need no multiplication.
use Rattle.std.proofs.Common.{◌≡◌, ℕ, zero, suc, ◌%◌, ◌^◌, ◌≤◌, ℤ, pos, negsuc, neg_ℤ, Bool, true, false, cond, ◌==◌, Ok, Err, of_z, w64, refl, sym, ap, ◌∙◌, arith}
use Rattle.std.proofs.Math.Nat.{pow-zero, pow-suc, pow-le-pow_left, pow-le-pow_right}
use Rattle.std.proofs.lemmas.Bool.{true≢false}
use Rattle.std.specs.Prelude.{unsigned_abs, int_lt}
use Rattle.std.specs.Int.{int_pow}
use Rattle.plarith.specs.declared.error.ArithError.TheVariants.{IntOverflow}
use Rattle.plarith.specs.Operations.{fitting, power}
use Rattle.plarith.proofs.Widths.{at_least, too_great, too_small}

one_pow : (n : ℕ) → 1 ^ n ≡ 1
one_pow zero = pow-zero 1
one_pow (suc n) = pow-suc 1 n ∙ omega (arith, one_pow n)

pub power_of_one : (y : ℤ) → power (pos 1) y ≡ Ok (pos 1)
power_of_one (pos n) = ap (λ m. fitting (pos m)) (one_pow n)
power_of_one (negsuc n) = refl

-- by whether the exponent is even
pub sign_power_is : (n : ℕ) → int_pow (negsuc 0) n ≡ cond (n % 2 == 0) (pos 1) (negsuc 0)
sign_power_is n = ap (λ m. cond (n % 2 == 0) (pos m) (neg_ℤ (pos m))) (one_pow n)

sign_fits : (b : Bool) → fitting (cond b (pos 1) (negsuc 0)) ≡ Ok (cond b (pos 1) (negsuc 0))
sign_fits true = refl
sign_fits false = refl

pub power_of_sign : (y : ℤ) → power (negsuc 0) y ≡ Ok (int_pow (negsuc 0) (unsigned_abs y))
power_of_sign (pos n) = ap fitting (sign_power_is n) ∙ sign_fits (n % 2 == 0) ∙ ap Ok (sym (sign_power_is n))
power_of_sign (negsuc n) = refl

nothing_at : (n : ℕ) → 0 ^ suc n ≡ 0
nothing_at n = pow-suc 0 n ∙ omega arith

nothing : (n : ℕ) → 64 ≤ n → 0 ^ n ≡ 0
nothing zero some = absurd (omega arith)
nothing (suc n) some = nothing_at n

pub power_of_zero : (y : ℤ) → int_lt y (pos 64) ≡ false → power (pos 0) y ≡ Ok (pos 0)
power_of_zero (pos n) h = ap (λ m. fitting (pos m)) (nothing n (at_least 64 (pos n) h))
power_of_zero (negsuc n) h = absurd (true≢false h)

-- no other power from the 64th on has 64 bits
great : (a n : ℕ) → 2 ≤ a → 64 ≤ n → 2 ^ 64 ≤ a ^ n
great a n base exponent = omega (arith, pow-le-pow_right {n = a} (omega arith) exponent, pow-le-pow_left base 64)

either_way : (b : Bool) (m : ℕ) → 2 ^ 64 ≤ m → fitting (cond b (pos m) (neg_ℤ (pos m))) ≡ Err IntOverflow
either_way true m h = too_great m (omega arith)
either_way false m h = too_small m (omega arith)

power_of_great : (x : ℤ) (n : ℕ) → 2 ≤ unsigned_abs x → 64 ≤ n → power x (pos n) ≡ Err IntOverflow
power_of_great (pos a) n base exponent = too_great (a ^ n) (omega (arith, great a n base exponent))
power_of_great (negsuc a) n base exponent = either_way (n % 2 == 0) (suc a ^ n) (great (suc a) n base exponent)

-- neither 0 nor 1 nor -1
two_or_more : (x : ℤ) → (of_z w64 x ≡ 0 → ⊥) → (of_z w64 x ≡ 1 → ⊥) → (of_z w64 x ≡ 18446744073709551615 → ⊥) → 2 ≤ unsigned_abs x
two_or_more (pos n) zero_out one_out minus_one_out = omega arith
two_or_more (negsuc n) zero_out one_out minus_one_out = omega arith

pub power_overflows : (x y : ℤ) → (of_z w64 x ≡ 0 → ⊥) → (of_z w64 x ≡ 1 → ⊥) → (of_z w64 x ≡ 18446744073709551615 → ⊥) → int_lt y (pos 64) ≡ false → power x y ≡ Err IntOverflow
power_overflows x (pos n) zero_out one_out minus_one_out far = power_of_great x n (two_or_more x zero_out one_out minus_one_out) (at_least 64 (pos n) far)
power_overflows x (negsuc n) zero_out one_out minus_one_out far = absurd (true≢false far)
