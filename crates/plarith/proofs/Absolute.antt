-- Where the absolute value of an integer of 64 bits has 64 bits.
use Rattle.std.proofs.Common.{ℤ, pos, negsuc, neg_ℤ, zero, suc, Option, Some, None, FitsSigned, w64, arith}
use Rattle.std.specs.Prelude.{unsigned_abs}
use Rattle.std.specs.Option.{SomeIff}

pub absolute_fits : (r : Option ℤ) (x : ℤ) → FitsSigned w64 x → SomeIff r (FitsSigned w64 (neg_ℤ x)) (pos (unsigned_abs x)) → SomeIff r (FitsSigned w64 (pos (unsigned_abs x))) (pos (unsigned_abs x))
absolute_fits r (negsuc n) fits s = s
absolute_fits r (pos zero) fits s = s
absolute_fits None (pos (suc n)) fits s = λ _. s (record { sfits = omega (arith, fits.sfits) })
absolute_fits (Some y) (pos (suc n)) fits s = (record { sfits = fits.sfits }, s.1)
