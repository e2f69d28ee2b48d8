-- The characters of names.
use Rattle.std.specs.Prelude.{ℕ, Bool, ◌||◌, ◌==◌}
use Rattle.std.specs.Char.{is_ascii_alphanumeric}

-- ASCII letters, digits and `_`
abbrev pub is_alphanumeric : ℕ → Bool
is_alphanumeric b = is_ascii_alphanumeric b || (b == 95)

-- + - * / \ ^ < > = ~ : . ? @ # & $
abbrev pub is_symbol : ℕ → Bool
is_symbol b = (b == 43) || (b == 45) || (b == 42) || (b == 47) || (b == 92) || (b == 94) || (b == 60) || (b == 62) || (b == 61) || (b == 126) || (b == 58) || (b == 46) || (b == 63) || (b == 64) || (b == 35) || (b == 38) || (b == 36)
