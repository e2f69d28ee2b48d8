-- Operations on integers that the library has no words for.
use Rattle.std.specs.Prelude.{ℕ, zero, suc, ◌/◌, ℤ, pos, negsuc, ◌-ℤ◌, ◌*ℤ◌, neg_ℤ, int_div, Bool, true, false}

-- an integer by a natural number that is not 0, rounded down
abbrev pub floor_by : ℤ → ℕ → ℤ
floor_by (pos a) d = pos (a / d)
floor_by (negsuc a) d = negsuc (a / d)

-- the same by an integer that is not 0
abbrev pub floor_quotient : ℤ → ℤ → ℤ
floor_quotient x (pos d) = floor_by x d
floor_quotient x (negsuc b) = floor_by (neg_ℤ x) (suc b)

-- X - floor(X / Y) * Y
abbrev pub modulo : ℤ → ℤ → ℤ
modulo x y = x -ℤ floor_quotient x y *ℤ y

-- X - (X // Y) * Y
abbrev pub remainder : ℤ → ℤ → ℤ
remainder x y = x -ℤ int_div x y *ℤ y

-- -X - 1
abbrev pub complement : ℤ → ℤ
complement (pos n) = negsuc n
complement (negsuc n) = pos n

-- an integer that is not 0, and one of the other sign; 0 counts as above
abbrev pub is_apart : ℤ → ℤ → Bool
is_apart (pos zero) y = false
is_apart (pos (suc m)) (pos n) = false
is_apart (pos (suc m)) (negsuc n) = true
is_apart (negsuc m) (pos n) = true
is_apart (negsuc m) (negsuc n) = false
