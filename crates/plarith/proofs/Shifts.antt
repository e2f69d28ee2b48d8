-- Shifts by many places.
use Rattle.std.proofs.Common.{◌≡◌, ℕ, zero, suc, ◌*◌, ◌/◌, ◌%◌, ◌^◌, ◌<◌, ◌≤◌, ℤ, pos, negsuc, ◌*ℤ◌, FitsSigned, w64, to_z, of_z, Bool, true, false, cond, Ok, Err, refl, sym, ap, ◌∙◌, arith}
use Rattle.std.proofs.Math.Nat.{pow-le-pow_right, div-eq_of_lt, mul-le-mul_left}
use Rattle.std.proofs.lemmas.Int.{to_z_pos, to_z-of_z}
use Rattle.std.proofs.lemmas.Nat.{one_shl, pow_below}
use Rattle.std.proofs.lemmas.Bool.{ltb-true, true≢false}
use Rattle.std.specs.Prelude.{int_lt}
use Rattle.std.specs.Int.{int_shr, int_min}
use lib.Dec.{ltb}
use lib.Signed.{mag_shr}
use Rattle.plarith.specs.declared.error.ArithError.TheVariants.{IntOverflow}
use Rattle.plarith.specs.Integers.{floor_by}
use Rattle.plarith.specs.Operations.{fitting, shifted_right}
use Rattle.plarith.proofs.Widths.{too_great, too_small}

pub shr_is : (x : ℤ) (k : ℕ) → int_shr x k ≡ floor_by x (2 ^ k)
shr_is (pos a) k = refl
shr_is (negsuc a) k = refl

rising : (j n : ℕ) → j ≤ n → 2 ^ j ≤ 2 ^ n
rising j n h = pow-le-pow_right {n = 2} (omega arith) h

gone : (a n : ℕ) → a < 2 ^ 63 → 63 ≤ n → a / 2 ^ 63 ≡ a / 2 ^ n
gone a n below h = div-eq_of_lt below ∙ sym (div-eq_of_lt (omega (arith, rising 63 n h)))

-- all bits are gone
pub shifted_far : (x : ℤ) (n : ℕ) → FitsSigned w64 x → 63 ≤ n → int_shr x 63 ≡ floor_by x (2 ^ n)
shifted_far (pos a) n fits h = ap pos (gone a n fits.sfits h)
shifted_far (negsuc a) n fits h = ap negsuc (gone a n fits.sfits h)

pub shifted_one : (n : ℕ) → n < 63 → to_z w64 ((1 * 2 ^ n) % 2 ^ 64) ≡ pos (2 ^ n)
shifted_one n few = ap (to_z w64) (one_shl n 64 (omega arith)) ∙ to_z_pos w64 (2 ^ n) (pow_below n 63 few)

many : (a n : ℕ) → 63 ≤ n → a * 2 ^ 63 ≤ a * 2 ^ n
many a n h = mul-le-mul_left a (rising 63 n h)

-- but for 0, and -1 by 63 places
pub shift_overflows : (x : ℤ) (n : ℕ) → (x ≡ pos 0 → ⊥) → 63 ≤ n → (x ≡ negsuc 0 → n ≡ 63 → ⊥) → fitting (x *ℤ pos (2 ^ n)) ≡ Err IntOverflow
shift_overflows (pos zero) n some far apart = absurd (some refl)
shift_overflows (pos (suc a)) n some far apart = too_great (suc a * 2 ^ n) (omega (arith, many (suc a) n far))
shift_overflows (negsuc zero) n some far apart = let further : 64 ≤ n = omega (arith, apart refl) in too_small (1 * 2 ^ n) (omega (arith, rising 64 n further))
shift_overflows (negsuc (suc a)) n some far apart = too_small (suc (suc a) * 2 ^ n) (omega (arith, many (suc (suc a)) n far))

by_least : (b : Bool) (x : ℤ) (n : ℕ) → FitsSigned w64 x → ltb 63 n ≡ b → int_shr x (of_z w64 (cond b (pos 63) (pos n))) ≡ floor_by x (2 ^ n)
by_least true x n fits e = shifted_far x n fits (omega (arith, ltb-true 63 n e))
by_least false x n fits e = shr_is x n

shr_fits : (x : ℤ) (k : ℕ) → FitsSigned w64 x → FitsSigned w64 (int_shr x k)
shr_fits x k fits = record { sfits = omega (arith, mag_shr x (2 ^ k), fits.sfits) }

-- by no more places than matter
pub shifted_least : (x y m : ℤ) → FitsSigned w64 x → int_lt y (pos 0) ≡ false → m ≡ int_min y (pos 63) → Ok (to_z w64 (of_z w64 (int_shr x (of_z w64 m)))) ≡ shifted_right x y
shifted_least x (pos n) m fits h e = ap Ok (to_z-of_z w64 (int_shr x (of_z w64 m)) (shr_fits x (of_z w64 m) fits) ∙ ap (λ k. int_shr x (of_z w64 k)) e ∙ by_least (ltb 63 n) x n fits refl)
shifted_least x (negsuc n) m fits h e = absurd (true≢false h)
