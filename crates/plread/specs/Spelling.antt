-- The signs of a clause's tokens, where the flag double_quotes has this value. A variable has a number: that of its
-- name's first occurrence, from 0, where each `_` is new.
use Rattle.std.specs.Prelude.{ℕ, List, [], ◌∷◌, ◌++◌, length, Bool, true, false, ◌==◌, if◌then◌else◌, Option, Some, None, codes}
use Rattle.std.specs.List.{position_or_len}
use Rattle.std.specs.Str.{bytes_eq}
use Rattle.pllex.specs.declared.token.Kind.{Kind}
use Rattle.pllex.specs.declared.token.Kind.TheVariants as kinds
use Rattle.pllex.specs.declared.token.Token as lex
use Rattle.pllex.specs.Named.{bytes_of, value_of}
use Rattle.plops.specs.declared.flag.Quotes.{Quotes}
use Rattle.plread.specs.Texts.{text_tree}
use Rattle.plread.specs.Signs.{Sign}
use Rattle.plread.specs.Signs as signs

abbrev pub anonymous : List ℕ
anonymous = codes "_"

-- the number of a variable behind those seen, which are their names in the order of their numbers
abbrev pub number_of : List (List ℕ) → List ℕ → ℕ
number_of seen name = if bytes_eq name anonymous then length seen else position_or_len (bytes_eq name) seen

-- the variables seen with this one
abbrev pub seen_with : List (List ℕ) → List ℕ → List (List ℕ)
seen_with seen name = if number_of seen name == length seen then seen ++ name ∷ [] else seen

abbrev pub seen_after : Kind → List (List ℕ) → List ℕ → List (List ℕ)
seen_after kinds.Variable seen name = seen_with seen name
seen_after kind seen name = seen

-- whether a token that starts here stands directly behind the one that ended there
abbrev pub is_joined : Option ℕ → ℕ → Bool
is_joined None start = false
is_joined (Some end) start = end == start

-- what punctuation says
abbrev pub mark : Kind → Bool → Sign
mark kinds.Open joined = if joined then signs.OpenCall else signs.Open
mark kinds.Close joined = signs.Close
mark kinds.OpenSquare joined = signs.OpenSquare
mark kinds.CloseSquare joined = signs.CloseSquare
mark kinds.OpenCurly joined = signs.OpenCurly
mark kinds.CloseCurly joined = signs.CloseCurly
mark kinds.Comma joined = signs.Comma
mark kinds.Bar joined = signs.Bar
mark kind joined = signs.End

-- what a token says: a name or a variable by its bytes, and a quoted item by its value
abbrev pub sign : Quotes → Kind → List ℕ → List ℕ → List (List ℕ) → Bool → Sign
sign quotes kinds.Name bytes value seen joined = signs.Name bytes true
sign quotes kinds.QuotedName bytes value seen joined = signs.Name value false
sign quotes kinds.Variable bytes value seen joined = signs.Variable (number_of seen bytes)
sign quotes (kinds.Integer n) bytes value seen joined = signs.Integer n joined
sign quotes kinds.DoubleQuoted bytes value seen joined = signs.Text (text_tree quotes value)
sign quotes kind bytes value seen joined = mark kind joined

-- the signs of tokens behind one that ended here, where these variables were seen
abbrev pub signs_behind : Quotes → List ℕ → List (List ℕ) → Option ℕ → List lex.Token → List Sign
signs_behind quotes text seen last [] = []
signs_behind quotes text seen last (t ∷ ts) =
    sign quotes t.kind (bytes_of text t) (value_of text t) seen (is_joined last t.start)
    ∷ signs_behind quotes text (seen_after t.kind seen (bytes_of text t)) (Some t.end) ts

-- the names of the variables seen behind these tokens
abbrev pub seen_behind : List ℕ → List (List ℕ) → List lex.Token → List (List ℕ)
seen_behind text seen [] = seen
seen_behind text seen (t ∷ ts) = seen_behind text (seen_after t.kind seen (bytes_of text t)) ts

-- the names of a clause's variables, in the order of their numbers: an anonymous variable has its own
abbrev pub variable_names : List ℕ → List lex.Token → List (List ℕ)
variable_names text ts = seen_behind text [] ts

-- the signs of a clause's tokens
abbrev pub signs_of : Quotes → List ℕ → List lex.Token → List Sign
signs_of quotes text ts = signs_behind quotes text [] None ts
