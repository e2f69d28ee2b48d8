-- Words, their parts, their text and its tokens, worked out by hand.
use Rattle.std.proofs.Common.{◌≡◌, ℕ, List, [], ◌∷◌, ◌++◌, codes, refl, pos, negsuc, true, false}
use Rattle.std.specs.Fmt.{digits}
use Rattle.pllex.specs.declared.token.Token.{Token}
use Rattle.pllex.specs.declared.token.Kind.{Kind}
use Rattle.pllex.specs.declared.token.Kind.TheVariants as kinds
use Rattle.plwrite.specs.declared.style.Style.TheVariants.{Quoted, Canonical, Listed}
use Rattle.plwrite.specs.declared.text.Sign.TheVariants as signs
use Rattle.pllaws.specs.Pieces.{Piece, Variable, Letter, Integer, Name, Functor, Prefix, Operator, Punctuation, parts, itself}
use Rattle.pllaws.specs.Tokens.{text, tokens, values, ending, end_at}

-- ---- the tokens that a word is

bare_name : parts (Name (codes "foo")) ≡ itself kinds.Name (codes "foo") ∷ []
bare_name = refl

quoted_name : parts (Name (codes "a b")) ≡ record { kind = kinds.QuotedName; text = codes "'a b'"; value = codes "a b" } ∷ []
quoted_name = refl

-- the value of a name within quotes has no escape
escaped_name : parts (Name (97 ∷ 10 ∷ 39 ∷ [])) ≡ record { kind = kinds.QuotedName; text = codes "'a\\n\\''"; value = 97 ∷ 10 ∷ 39 ∷ [] } ∷ []
escaped_name = refl

no_name : parts (Name []) ≡ record { kind = kinds.QuotedName; text = codes "''"; value = [] } ∷ []
no_name = refl

empty_list : parts (Name (codes "[]")) ≡ itself kinds.OpenSquare (codes "[") ∷ itself kinds.CloseSquare (codes "]") ∷ []
empty_list = refl

-- but one token as a functor
empty_list_functor : parts (Functor (codes "[]")) ≡ record { kind = kinds.QuotedName; text = codes "'[]'"; value = codes "[]" } ∷ []
empty_list_functor = refl

comma_operator : parts (Operator (codes ",")) ≡ itself kinds.Comma (codes ",") ∷ []
comma_operator = refl

comma_name : parts (Name (codes ",")) ≡ record { kind = kinds.QuotedName; text = codes "','"; value = codes "," } ∷ []
comma_name = refl

negative : parts (Integer (negsuc 11)) ≡ itself kinds.Name (codes "-") ∷ itself (kinds.Integer 12) (codes "12") ∷ []
unfolding digits
negative = refl

-- ---- the text of words, and its tokens

abbrev at : Kind → ℕ → ℕ → Token
at kind start end = record { kind = kind; start = start; end = end }

-- f(_1, -2), as it is written
abbrev call : List Piece
call = Functor (codes "f") ∷ Punctuation signs.Open ∷ Variable 1 ∷ Punctuation signs.Comma ∷ Integer (negsuc 1) ∷ Punctuation signs.Close ∷ []

call_text : text Quoted call ≡ codes "f(_1,-2)"
unfolding digits
call_text = refl

call_tokens : tokens Quoted 0 call ≡ at kinds.Name 0 1 ∷ at kinds.Open 1 2 ∷ at kinds.Variable 2 4 ∷ at kinds.Comma 4 5 ∷ at kinds.Name 5 6 ∷ at (kinds.Integer 2) 6 7 ∷ at kinds.Close 7 8 ∷ []
unfolding digits
call_tokens = refl

-- two signs are held apart
abbrev difference : List Piece
difference = Name (codes "a") ∷ Operator (codes "-") ∷ Integer (negsuc 0) ∷ []

difference_text : text Listed difference ≡ codes "a- -1"
unfolding digits
difference_text = refl

difference_tokens : tokens Listed 10 difference ≡ at kinds.Name 10 11 ∷ at kinds.Name 11 12 ∷ at kinds.Name 13 14 ∷ at (kinds.Integer 1) 14 15 ∷ []
unfolding digits
difference_tokens = refl

-- so are two quoted names, and letters before a quote
abbrev quotes : List Piece
quotes = Name (codes "A") ∷ Operator (codes "B") ∷ Letter 27 ∷ Operator (codes "C") ∷ []

quotes_text : text Quoted quotes ≡ codes "'A' 'B'B1 'C'"
unfolding digits
quotes_text = refl

quotes_tokens : tokens Quoted 0 quotes ≡ at kinds.QuotedName 0 3 ∷ at kinds.QuotedName 4 7 ∷ at kinds.Variable 7 9 ∷ at kinds.QuotedName 10 13 ∷ []
unfolding digits
quotes_tokens = refl

quotes_values : values quotes ≡ codes "A" ∷ codes "B" ∷ codes "B1" ∷ codes "C" ∷ []
unfolding digits
quotes_values = refl

-- a prefix operator touches no bracket, and the sign no digit
abbrev sign_of_sign : List Piece
sign_of_sign = Prefix (codes "-") ∷ Punctuation signs.Open ∷ Prefix (codes "-") ∷ Integer (pos 1) ∷ Punctuation signs.Close ∷ []

sign_text : text Canonical sign_of_sign ≡ codes "- (- 1)"
unfolding digits
sign_text = refl

sign_tokens : tokens Canonical 0 sign_of_sign ≡ at kinds.Name 0 1 ∷ at kinds.Open 2 3 ∷ at kinds.Name 3 4 ∷ at (kinds.Integer 1) 5 6 ∷ at kinds.Close 6 7 ∷ []
unfolding digits
sign_tokens = refl

-- the full stop
near : ending false (10 ∷ []) ≡ codes "." ++ 10 ∷ []
near = refl

near_token : end_at false 7 ≡ at kinds.End 7 8
near_token = refl

far : ending true [] ≡ codes " ."
far = refl

far_token : end_at true 7 ≡ at kinds.End 8 9
far_token = refl
