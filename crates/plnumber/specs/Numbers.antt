-- The integer that a text is (ISO/IEC 13211-1 8.16.7, 8.16.8).
use Rattle.std.specs.Prelude.{ℕ, ℤ, pos, ◌+◌, List, length, drop, ◌==◌, nat_le, nat_lt, if◌then◌else◌, Option, Some, None}
use Rattle.std.specs.Option.{option_and_then}
use Rattle.pllex.specs.declared.token.Kind.{Kind}
use Rattle.pllex.specs.declared.token.Kind.TheVariants as kinds
use Rattle.pllex.specs.declared.token.Scanned.{Scanned}
use Rattle.pllex.specs.declared.token.Scanned.TheVariants as items
use Rattle.pllex.specs.declared.layout.Mode.TheVariants.{Between}
use Rattle.pllex.specs.declared.layout.Gap.{Gap}
use Rattle.pllex.specs.declared.layout.Gap.TheVariants as gaps
use Rattle.pllex.specs.Characters.{begins_with}
use Rattle.pllex.specs.Tokens.{item_at, gap}
use Rattle.plread.specs.Reading.{negative}

abbrev pub integer_value : Kind → Option ℕ
integer_value (kinds.Integer n) = Some n
integer_value kind = None

-- the value of an integer token with which the text ends
abbrev pub last_integer : List ℕ → Scanned → Option ℕ
last_integer text (items.Token t) = if t.end == length text then integer_value t.kind else None
last_integer text (items.Fault fault at) = None
last_integer text items.Nothing = None

-- an integer is below 2^63, and from -2^63 on
abbrev pub unsigned : ℕ → Option ℤ
unsigned n = if nat_lt n 9223372036854775808 then Some (pos n) else None

abbrev pub negated : ℕ → Option ℤ
negated n = if nat_le n 9223372036854775808 then Some (negative n) else None

-- an integer token, or - directly before one, and no more: these bytes from a place on
abbrev pub number_at : List ℕ → ℕ → List ℕ → Option ℤ
number_at text place bytes =
    if begins_with 45 bytes then option_and_then negated (last_integer text (item_at text (place + 1) (drop (place + 1) text)))
    else option_and_then unsigned (last_integer text (item_at text place bytes))

-- behind layout
abbrev pub behind : List ℕ → Gap → Option ℤ
behind text (gaps.Before place) = number_at text place (drop place text)
behind text (gaps.Unclosed start) = None
behind text (gaps.Bad place) = None

-- the integer that a text is, if it is one
unfoldable pub number_of : List ℕ → Option ℤ
number_of text = behind text (gap Between 0 text)
