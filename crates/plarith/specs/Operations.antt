-- What the evaluable functors give for integers (ISO/IEC 13211-1 9.1, 9.3, 9.4).
use Rattle.std.specs.Prelude.{ℕ, zero, suc, ◌^◌, ℤ, pos, negsuc, ◌+ℤ◌, ◌-ℤ◌, ◌*ℤ◌, neg_ℤ, unsigned_abs, int_div, Ok, Err, nat_lt, if◌then◌else◌}
use Rattle.std.specs.Int.{w64, int_pow, int_signum, int_bit_and, int_bit_or, int_max, int_min}
use Rattle.platoms.specs.declared.evaluable.Unary.{Unary}
use Rattle.platoms.specs.declared.evaluable.Unary.TheVariants.{Negate, Keep, Absolute, Sign, Complement}
use Rattle.platoms.specs.declared.evaluable.Binary.{Binary}
use Rattle.platoms.specs.declared.evaluable.Binary.TheVariants.{Add, Subtract, Multiply, Quotient, Divide, Remainder, Modulo, Power, ShiftLeft, ShiftRight, And, Or, Maximum, Minimum}
use Rattle.plarith.specs.declared.error.ArithError.TheVariants.{NotFloat, ZeroDivisor, Undefined, IntOverflow}
use Rattle.plarith.specs.Errors.{Evaluated}
use Rattle.plarith.specs.Integers.{floor_by, modulo, remainder, complement}

-- an integer, if it has 64 bits
abbrev pub fitting : ℤ → Evaluated
fitting (pos n) = if nat_lt n (2 ^ 63) then Ok (pos n) else Err IntOverflow
fitting (negsuc n) = if nat_lt n (2 ^ 63) then Ok (negsuc n) else Err IntOverflow

-- what is so for a divisor that is not 0
abbrev pub divided : ℤ → Evaluated → Evaluated
divided (pos zero) r = Err ZeroDivisor
divided (pos (suc n)) r = r
divided (negsuc n) r = r

-- the quotient where nothing remains
abbrev pub exact : ℤ → ℤ → Evaluated
exact (pos zero) q = fitting q
exact (pos (suc n)) q = Err Undefined
exact (negsuc n) q = Err Undefined

-- 1 / x ^ (n + 1), which is an integer for 1 and -1 alone
abbrev pub inverse_power : ℤ → ℕ → Evaluated
inverse_power (pos zero) n = Err (NotFloat (pos zero))
inverse_power (pos (suc zero)) n = Ok (pos 1)
inverse_power (pos (suc (suc a))) n = Err (NotFloat (pos (suc (suc a))))
inverse_power (negsuc zero) n = Ok (int_pow (negsuc 0) (suc n))
inverse_power (negsuc (suc a)) n = Err (NotFloat (negsuc (suc a)))

abbrev pub power : ℤ → ℤ → Evaluated
power x (pos n) = fitting (int_pow x n)
power x (negsuc n) = inverse_power x n

abbrev pub shifted_left : ℤ → ℤ → Evaluated
shifted_left x (pos n) = fitting (x *ℤ pos (2 ^ n))
shifted_left x (negsuc n) = Err Undefined

abbrev pub shifted_right : ℤ → ℤ → Evaluated
shifted_right x (pos n) = Ok (floor_by x (2 ^ n))
shifted_right x (negsuc n) = Err Undefined

-- what a functor of one argument gives
abbrev pub unary : Unary → ℤ → Evaluated
unary Negate x = fitting (neg_ℤ x)
unary Keep x = Ok x
unary Absolute x = fitting (pos (unsigned_abs x))
unary Sign x = Ok (int_signum x)
unary Complement x = Ok (complement x)

-- what a functor of two arguments gives
abbrev pub binary : Binary → ℤ → ℤ → Evaluated
binary Add x y = fitting (x +ℤ y)
binary Subtract x y = fitting (x -ℤ y)
binary Multiply x y = fitting (x *ℤ y)
binary Quotient x y = divided y (fitting (int_div x y))
binary Divide x y = divided y (exact (remainder x y) (int_div x y))
binary Remainder x y = divided y (Ok (remainder x y))
binary Modulo x y = divided y (Ok (modulo x y))
binary Power x y = power x y
binary ShiftLeft x y = shifted_left x y
binary ShiftRight x y = shifted_right x y
binary And x y = Ok (int_bit_and w64 x y)
binary Or x y = Ok (int_bit_or w64 x y)
binary Maximum x y = Ok (int_max x y)
binary Minimum x y = Ok (int_min x y)
