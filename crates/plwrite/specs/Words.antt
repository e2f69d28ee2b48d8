-- Words, and their text: one space stands between two words exactly where they would be read otherwise.
use Rattle.std.specs.Prelude.{◌≡◌, ℕ, ℤ, ◌+◌, ◌-◌, ◌/◌, ◌%◌, List, [], ◌∷◌, ◌++◌, length, Bool, true, false, ◌||◌, ◌&&◌, ◌==◌, nat_le, slice_get, unwrap_or, if◌then◌else◌, codes, decimal}
use Rattle.std.specs.Fmt.{signed_decimal}
use Rattle.std.specs.Str.{bytes_eq}
use Rattle.std.specs.Char.{is_ascii_digit}
use Rattle.plterm.specs.Characters.{is_alphanumeric, is_symbol}
use Rattle.plwrite.specs.declared.style.Style.{Style}
use Rattle.plwrite.specs.declared.text.Role.{Role}
use Rattle.plwrite.specs.declared.text.Role.TheVariants.{Other, PrefixOperator, PrefixMinus}
use Rattle.plwrite.specs.declared.text.Edge.{Edge}
use Rattle.plwrite.specs.declared.text.Text.{Text}
use Rattle.plwrite.specs.declared.text.Sign.{Sign}
use Rattle.plwrite.specs.declared.text.Sign.TheVariants as signs
use Rattle.plwrite.specs.Names.{name_text, functor_text}

-- a token as it is written, and whether it stands as a prefix operator
pub record Word : Type 0 where
  pub text : List ℕ
  pub role : Role

-- no word, as a space
abbrev pub first_byte : List ℕ → ℕ
first_byte s = unwrap_or (slice_get s 0) 32

abbrev pub last_byte : List ℕ → ℕ
last_byte s = unwrap_or (slice_get s (length s - 1)) 32

-- how a word ends
abbrev pub edge_of : Word → Edge
edge_of w = record { last = last_byte w.text; role = w.role }

abbrev pub is_letter : ℕ → Bool
is_letter b = is_alphanumeric b || nat_le 128 b

-- a prefix operator does not touch a bracket, nor the sign a digit
abbrev pub is_held_off : Role → ℕ → Bool
is_held_off Other next = false
is_held_off PrefixOperator next = next == 40
is_held_off PrefixMinus next = (next == 40) || is_ascii_digit next

-- a space stands between the edge and a word that begins with this byte
abbrev pub touches : Edge → ℕ → Bool
touches edge next =
    (is_letter edge.last && is_letter next)
    || ((is_symbol edge.last && is_symbol next)
    || (((is_letter edge.last || (edge.last == 39)) && (next == 39))
    || is_held_off edge.role next))

abbrev pub spaced : Bool → List ℕ → List ℕ
spaced true text = 32 ∷ text
spaced false text = text

-- the text of words behind an edge
abbrev pub text_behind : Edge → List Word → List ℕ
text_behind edge [] = []
text_behind edge (w ∷ ws) = spaced (touches edge (first_byte w.text)) (w.text ++ text_behind (edge_of w) ws)

-- where nothing stands before
abbrev pub start : Edge
start = record { last = 32; role = Other }

abbrev pub text_of : List Word → List ℕ
text_of ws = text_behind start ws

-- the text so far, with words that follow
unfoldable pub finished : Text → List Word → List ℕ
finished t ws = t.bytes.items ++ text_behind t.edge ws

-- what is put before the words that follow
abbrev pub Puts : Text → Text → (List Word → List Word) → Type 0
Puts old new f = (ws : List Word) → finished new ws ≡ finished old (f ws)

abbrev pub Adds : Text → Text → Word → Type 0
Adds old new w = (ws : List Word) → finished new ws ≡ finished old (w ∷ ws)

abbrev pub plain : List ℕ → Word
plain s = record { text = s; role = Other }

-- punctuation
abbrev pub sign_text : Sign → List ℕ
sign_text signs.Open = codes "("
sign_text signs.Close = codes ")"
sign_text signs.OpenSquare = codes "["
sign_text signs.CloseSquare = codes "]"
sign_text signs.OpenCurly = codes "{"
sign_text signs.CloseCurly = codes "}"
sign_text signs.Comma = codes ","
sign_text signs.Bar = codes "|"

abbrev pub sign : Sign → Word
sign s = plain (sign_text s)

-- a variable by its number
abbrev pub variable : ℕ → Word
variable n = plain (95 ∷ decimal n)

abbrev pub integer : ℤ → Word
integer i = plain (signed_decimal i)

abbrev pub digits_unless_zero : ℕ → List ℕ
digits_unless_zero n = if n == 0 then [] else decimal n

-- a variable by its place among A .. Z, A1 .. Z1, and so on
abbrev pub letter_text : ℕ → List ℕ
letter_text n = (65 + n % 26) ∷ digits_unless_zero (n / 26)

abbrev pub name : Style → List ℕ → Word
name style s = plain (name_text style s)

abbrev pub functor : Style → List ℕ → Word
functor style s = plain (functor_text style s)

abbrev pub is_minus : List ℕ → Bool
is_minus s = bytes_eq s (codes "-")

abbrev pub prefix_role : List ℕ → Role
prefix_role s = if is_minus s then PrefixMinus else PrefixOperator

abbrev pub prefix : Style → List ℕ → Word
prefix style s = record { text = name_text style s; role = prefix_role s }

-- an infix or postfix operator: the comma is punctuation there
abbrev pub operator_text : Style → List ℕ → List ℕ
operator_text style s = if bytes_eq s (codes ",") then codes "," else name_text style s

abbrev pub operator : Style → List ℕ → Word
operator style s = plain (operator_text style s)
