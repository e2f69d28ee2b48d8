-- What the writer's words are, and the tokens that each is, apart from their places.
use Rattle.std.specs.Prelude.{◌≡◌, ℕ, suc, ◌≤◌, ◌<◌, ◌^◌, ℤ, pos, negsuc, List, [], ◌∷◌, length, true, ◌&&◌, not, if◌then◌else◌, codes, decimal}
use Rattle.std.specs.Str.{bytes_eq, is_utf8}
use Rattle.pllex.specs.declared.token.Kind.{Kind}
use Rattle.pllex.specs.declared.token.Kind.TheVariants as kinds
use Rattle.plwrite.specs.declared.style.Style.{Style}
use Rattle.plwrite.specs.declared.style.Style.TheVariants as styles
use Rattle.plwrite.specs.declared.text.Sign.{Sign}
use Rattle.plwrite.specs.declared.text.Sign.TheVariants as signs
use Rattle.plwrite.specs.Names.{is_bare, is_empty_brackets, quoted}
use Rattle.plwrite.specs.Words.{Word, plain, sign, sign_text, variable, integer, letter_text, name, functor, prefix, operator}

-- what a word is
pub data Piece : Type 0 where
  Variable : ℕ → Piece
  -- a variable by its place in the alphabet
  Letter : ℕ → Piece
  Integer : ℤ → Piece
  Name : List ℕ → Piece
  Functor : List ℕ → Piece
  Prefix : List ℕ → Piece
  Operator : List ℕ → Piece
  Punctuation : Sign → Piece

abbrev pub word : Style → Piece → Word
word style (Variable n) = variable n
word style (Letter n) = plain (letter_text n)
word style (Integer i) = integer i
word style (Name s) = name style s
word style (Functor s) = functor style s
word style (Prefix s) = prefix style s
word style (Operator s) = operator style s
word style (Punctuation s) = sign s

-- a style in which names are quoted
abbrev pub QuotesNames : Style → Type 0
QuotesNames styles.Plain = ⊥
QuotesNames styles.Quoted = Unit {0}
QuotesNames styles.Canonical = Unit {0}
QuotesNames styles.Listed = Unit {0}

-- a name is text of at most 65,535 bytes
pub record IsName (s : List ℕ) : Type 0 where
  pub is_text : is_utf8 s ≡ true
  pub few : length s ≤ 65535

-- a variable's number has 64 bits, and an integer is at most 2^63 apart from its sign
abbrev pub Fits : Piece → Type 0
Fits (Variable n) = n < 2 ^ 64
Fits (Letter n) = n < 2 ^ 64
Fits (Integer (pos n)) = n ≤ 2 ^ 63
Fits (Integer (negsuc n)) = n < 2 ^ 63
Fits (Name s) = IsName s
Fits (Functor s) = IsName s
Fits (Prefix s) = IsName s
Fits (Operator s) = IsName s
Fits (Punctuation s) = Unit {0}

abbrev pub AllFit : List Piece → Type 0
AllFit [] = Unit {0}
AllFit (p ∷ ps) = Fits p × AllFit ps

-- a token: its kind, its bytes, and its value
pub record Part : Type 0 where
  pub kind : Kind
  pub text : List ℕ
  pub value : List ℕ

-- a token that is its own value
abbrev pub itself : Kind → List ℕ → Part
itself kind text = record { kind = kind; text = text; value = text }

abbrev pub quoted_part : List ℕ → Part
quoted_part s = record { kind = kinds.QuotedName; text = quoted s; value = s }

abbrev pub name_part : List ℕ → Part
name_part s = if is_bare s then itself kinds.Name s else quoted_part s

abbrev pub functor_part : List ℕ → Part
functor_part s = if is_bare s && not (is_empty_brackets s) then itself kinds.Name s else quoted_part s

-- [] and {} are two tokens
abbrev pub name_parts : List ℕ → List Part
name_parts s =
    if bytes_eq s (codes "[]") then itself kinds.OpenSquare (codes "[") ∷ itself kinds.CloseSquare (codes "]") ∷ []
    else (if bytes_eq s (codes "{}") then itself kinds.OpenCurly (codes "{") ∷ itself kinds.CloseCurly (codes "}") ∷ []
    else name_part s ∷ [])

abbrev pub operator_parts : List ℕ → List Part
operator_parts s = if bytes_eq s (codes ",") then itself kinds.Comma (codes ",") ∷ [] else name_parts s

-- the sign of a negative integer is a name
abbrev pub integer_parts : ℤ → List Part
integer_parts (pos n) = itself (kinds.Integer n) (decimal n) ∷ []
integer_parts (negsuc n) = itself kinds.Name (codes "-") ∷ itself (kinds.Integer (suc n)) (decimal (suc n)) ∷ []

abbrev pub sign_kind : Sign → Kind
sign_kind signs.Open = kinds.Open
sign_kind signs.Close = kinds.Close
sign_kind signs.OpenSquare = kinds.OpenSquare
sign_kind signs.CloseSquare = kinds.CloseSquare
sign_kind signs.OpenCurly = kinds.OpenCurly
sign_kind signs.CloseCurly = kinds.CloseCurly
sign_kind signs.Comma = kinds.Comma
sign_kind signs.Bar = kinds.Bar

-- the tokens that a word is, each directly behind the one before it
abbrev pub parts : Piece → List Part
parts (Variable n) = itself kinds.Variable (95 ∷ decimal n) ∷ []
parts (Letter n) = itself kinds.Variable (letter_text n) ∷ []
parts (Integer i) = integer_parts i
parts (Name s) = name_parts s
parts (Functor s) = functor_part s ∷ []
parts (Prefix s) = name_parts s
parts (Operator s) = operator_parts s
parts (Punctuation s) = itself (sign_kind s) (sign_text s) ∷ []
