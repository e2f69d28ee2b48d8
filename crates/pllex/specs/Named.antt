-- The bytes of tokens, and their values.
use Rattle.std.specs.Prelude.{◌≡◌, ℕ, ◌+◌, ◌<◌, ◌≤◌, List, [], ◌∷◌, length, drop, slice_range, Bool, true, false}
use Rattle.std.specs.Str.{is_utf8}
use Rattle.pllex.specs.declared.token.Token.{Token}
use Rattle.pllex.specs.declared.token.Kind.{Kind}
use Rattle.pllex.specs.declared.token.Kind.TheVariants as kinds
use Rattle.pllex.specs.declared.quoted.Quote.{Quote}
use Rattle.pllex.specs.declared.quoted.Quote.TheVariants.{Single, Double}
use Rattle.pllex.specs.declared.quoted.Within.TheVariants.{Inside}
use Rattle.pllex.specs.Quoted.{quoted_value}

abbrev pub bytes_of : List ℕ → Token → List ℕ
bytes_of text t = slice_range text t.start t.end

-- the value of the quoted item that starts at a place
abbrev pub value_within : Quote → List ℕ → ℕ → List ℕ
value_within quote text start = quoted_value quote start (Inside 0) (start + 1) (drop (start + 1) text)

-- the value of a quoted item, escape sequences and doubled quotes resolved; of other tokens their bytes
abbrev pub value_as : Kind → List ℕ → Token → List ℕ
value_as kinds.Name text t = bytes_of text t
value_as kinds.QuotedName text t = value_within Single text t.start
value_as kinds.Variable text t = bytes_of text t
value_as (kinds.Integer n) text t = bytes_of text t
value_as kinds.DoubleQuoted text t = value_within Double text t.start
value_as kinds.Open text t = bytes_of text t
value_as kinds.Close text t = bytes_of text t
value_as kinds.OpenSquare text t = bytes_of text t
value_as kinds.CloseSquare text t = bytes_of text t
value_as kinds.OpenCurly text t = bytes_of text t
value_as kinds.CloseCurly text t = bytes_of text t
value_as kinds.Comma text t = bytes_of text t
value_as kinds.Bar text t = bytes_of text t
value_as kinds.End text t = bytes_of text t

abbrev pub value_of : List ℕ → Token → List ℕ
value_of text t = value_as t.kind text t

-- the token lies within the text, and its bytes are text of at most 65,535 bytes
pub record IsWord (text : List ℕ) (t : Token) : Type 0 where
  pub ordered : t.start ≤ t.end
  pub within : t.end ≤ length text
  pub few : length (bytes_of text t) ≤ 65535
  pub is_text : is_utf8 (bytes_of text t) ≡ true

-- the token lies within the text, and its value is text
pub record IsQuoted (quote : Quote) (text : List ℕ) (t : Token) : Type 0 where
  pub ordered : t.start < t.end
  pub within : t.end ≤ length text
  pub is_text : is_utf8 (value_within quote text t.start) ≡ true

-- and a name's value has at most 65,535 bytes
pub record IsQuotedName (text : List ℕ) (t : Token) : Type 0 where
  pub item : IsQuoted Single text t
  pub few : length (value_within Single text t.start) ≤ 65535

abbrev pub IsNamedAs : Kind → List ℕ → Token → Type 0
IsNamedAs kinds.Name text t = IsWord text t
IsNamedAs kinds.QuotedName text t = IsQuotedName text t
IsNamedAs kinds.Variable text t = IsWord text t
IsNamedAs (kinds.Integer n) text t = Unit {0}
IsNamedAs kinds.DoubleQuoted text t = IsQuoted Double text t
IsNamedAs kinds.Open text t = Unit {0}
IsNamedAs kinds.Close text t = Unit {0}
IsNamedAs kinds.OpenSquare text t = Unit {0}
IsNamedAs kinds.CloseSquare text t = Unit {0}
IsNamedAs kinds.OpenCurly text t = Unit {0}
IsNamedAs kinds.CloseCurly text t = Unit {0}
IsNamedAs kinds.Comma text t = Unit {0}
IsNamedAs kinds.Bar text t = Unit {0}
IsNamedAs kinds.End text t = Unit {0}

-- names, variables and quoted items have a value
abbrev pub has_value : Kind → Bool
has_value kinds.Name = true
has_value kinds.QuotedName = true
has_value kinds.Variable = true
has_value (kinds.Integer n) = false
has_value kinds.DoubleQuoted = true
has_value kinds.Open = false
has_value kinds.Close = false
has_value kinds.OpenSquare = false
has_value kinds.CloseSquare = false
has_value kinds.OpenCurly = false
has_value kinds.CloseCurly = false
has_value kinds.Comma = false
has_value kinds.Bar = false
has_value kinds.End = false

-- each of them is such a word or such an item
abbrev pub AreNamed : List ℕ → List Token → Type 0
AreNamed text [] = Unit {0}
AreNamed text (t ∷ ts) = IsNamedAs t.kind text t × AreNamed text ts
