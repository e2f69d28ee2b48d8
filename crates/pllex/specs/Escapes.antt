-- Escape sequences, byte by byte.
use Rattle.std.specs.Prelude.{ℕ, ◌+◌, ◌*◌, List, [], ◌∷◌, Bool, true, ◌||◌, ◌&&◌, ◌==◌, nat_lt, nat_le, if◌then◌else◌, Option, Some, None}
use Rattle.std.specs.Char.{digit_value}
use Rattle.pllex.specs.declared.token.Base.{Base}
use Rattle.pllex.specs.declared.token.Base.TheVariants.{Octal, Hexadecimal}
use Rattle.pllex.specs.declared.escape.Escape.{Escape}
use Rattle.pllex.specs.declared.escape.Escape.TheVariants as escapes
use Rattle.pllex.specs.declared.escape.AfterEscape.{AfterEscape}
use Rattle.pllex.specs.declared.escape.AfterEscape.TheVariants as turns
use Rattle.pllex.specs.declared.escape.Coded.{Coded}
use Rattle.pllex.specs.declared.escape.Coded.TheVariants as coded
use Rattle.pllex.specs.Classes.{radix, is_digit}

-- \\ \' \" \` are themselves; \a \b \f \n \r \t \v are 7, 8, 12, 10, 13, 9, 11
abbrev pub escaped : ℕ → Option ℕ
escaped b =
    if (b == 92) || (b == 39) || (b == 34) || (b == 96) then Some b
    else (if b == 97 then Some 7
    else (if b == 98 then Some 8
    else (if b == 102 then Some 12
    else (if b == 110 then Some 10
    else (if b == 114 then Some 13
    else (if b == 116 then Some 9
    else (if b == 118 then Some 11 else None)))))))

-- a digit of a code, which is at most 0x10FFFF
abbrev pub in_code : Base → ℕ → ℕ → AfterEscape
in_code base code b =
    if nat_le (radix base * code + digit_value b) 0x10FFFF then turns.Goes (escapes.Digits base (radix base * code + digit_value b))
    else turns.Bad

-- the code of a character: below 0x110000, and no surrogate
abbrev pub is_scalar : ℕ → Bool
is_scalar c = if nat_lt c 0xD800 then true else (nat_le 0xE000 c && nat_lt c 0x110000)

-- the end of a code
abbrev pub of_code : ℕ → AfterEscape
of_code code = if is_scalar code then turns.Is code else turns.Bad

abbrev pub of_letter : Option ℕ → AfterEscape
of_letter (Some c) = turns.Is c
of_letter None = turns.Bad

abbrev pub escape_turn : Escape → ℕ → AfterEscape
escape_turn escapes.Begins b =
    if b == 120 then turns.Goes escapes.BeforeDigits
    else (if is_digit Octal b then in_code Octal 0 b else of_letter (escaped b))
escape_turn escapes.BeforeDigits b = if is_digit Hexadecimal b then in_code Hexadecimal 0 b else turns.Bad
escape_turn (escapes.Digits base code) b =
    if is_digit base b then in_code base code b
    else (if b == 92 then of_code code else turns.Bad)

abbrev pub code_goes_on : (Escape → Coded) → ℕ → AfterEscape → Coded
code_goes_on rest place (turns.Goes next) = rest next
code_goes_on rest place (turns.Is c) = coded.Character c (place + 1)
code_goes_on rest place turns.Bad = coded.NoCharacter

-- the character of an escape sequence that goes on at a place, and the place behind it
unfoldable pub escape_code : Escape → ℕ → List ℕ → Coded
escape_code escape place [] = coded.NoCharacter
escape_code escape place (b ∷ bytes) = code_goes_on (λ next. escape_code next (place + 1) bytes) place (escape_turn escape b)
