-- The text of a term (ISO/IEC 13211-1 7.10.5): its words, and their text.
use Rattle.std.specs.Prelude.{ℕ, ℤ, pos, negsuc, List, [], ◌∷◌, ◌++◌, Bool, true, false, ◌&&◌, Option, Some, None, if◌then◌else◌, codes}
use Rattle.std.specs.Str.{bytes_eq}
use Rattle.plterm.specs.Tree.{Tree, var, int, atom, compound, Trees, none, more}
use Rattle.plterm.specs.Variables.{copied}
use Rattle.plterm.specs.Characters.{is_symbol}
use Rattle.plops.specs.declared.operator.Prefix.{Prefix}
use Rattle.plops.specs.declared.operator.Infix.{Infix}
use Rattle.plops.specs.declared.operator.Postfix.{Postfix}
use Rattle.plops.specs.declared.operator.Operator.TheVariants as operators
use Rattle.plops.specs.declared.table.Entry.{Entry}
use Rattle.plops.specs.Tables.{prefix_of, infix_of, postfix_of}
use Rattle.plwrite.specs.declared.style.Style.{Style}
use Rattle.plwrite.specs.declared.style.Style.TheVariants.{Listed}
use Rattle.plwrite.specs.declared.place.Position.{Position}
use Rattle.plwrite.specs.declared.place.Position.TheVariants.{At, Tail}
use Rattle.plwrite.specs.declared.text.Sign.TheVariants as signs
use Rattle.plwrite.specs.declared.form.Alone.{Alone}
use Rattle.plwrite.specs.declared.form.Alone.TheVariants as alone
use Rattle.plwrite.specs.declared.form.Pair.{Pair}
use Rattle.plwrite.specs.declared.form.Pair.TheVariants as pair
use Rattle.plwrite.specs.Styles.{used, has_letters}
use Rattle.plwrite.specs.Words.{Word, last_byte, text_of, plain, sign, variable, integer, letter_text, name, functor, prefix, operator, is_minus}
use Rattle.plwrite.specs.Places.{whole, argument, right_of_prefix, left_of, right_of, left_of_postfix, needs_brackets, is_bracketed_atom, place_of}

-- the integer that a term is
abbrev pub int_of : Tree → Option ℤ
int_of (var n) = None
int_of (int i) = Some i
int_of (atom s) = None
int_of (compound s args) = None

-- How a compound of one argument is written: '$VAR' of a number from 0 on as a variable, then {} in its braces,
-- then with its operator, prefix before postfix, but the sign is a functor before an integer.
abbrev pub operated : Option Prefix → Option Postfix → Bool → Alone
operated (Some op) behind true = alone.Functional
operated (Some op) behind false = alone.Before op
operated None (Some op) sign_of_int = alone.Behind op
operated None None sign_of_int = alone.Functional

abbrev pub as_operator : List Entry → Style → List ℕ → Bool → Alone
as_operator ops style s sign_of_int = operated (used style (prefix_of ops s)) (used style (postfix_of ops s)) sign_of_int

abbrev pub numbered : List Entry → Style → List ℕ → Option ℤ → Alone
numbered ops style s (Some (pos n)) = if has_letters style && bytes_eq s (codes "$VAR") then alone.Letter n else as_operator ops style s (is_minus s)
numbered ops style s (Some (negsuc n)) = as_operator ops style s (is_minus s)
numbered ops style s None = as_operator ops style s false

abbrev pub alone_form : List Entry → Style → List ℕ → Option ℤ → Alone
alone_form ops style s value = if bytes_eq s (codes "{}") then alone.Curly else numbered ops style s value

-- How a compound of two arguments is written: as a list, or with its operator.
abbrev pub infix_form : Option Infix → Pair
infix_form None = pair.Functional
infix_form (Some op) = pair.Between op

abbrev pub pair_form : List Entry → Style → List ℕ → Pair
pair_form ops style s = if bytes_eq s (codes ".") then pair.List else infix_form (used style (infix_of ops s))

-- Words are put before those that follow them. So the words of a part are a function of what follows it, and
-- those of an argument also of the position where it stands.

abbrev pub opening : Bool → List Word → List Word
opening true ws = sign signs.Open ∷ ws
opening false ws = ws

abbrev pub closing : Bool → List Word → List Word
closing true ws = sign signs.Close ∷ ws
closing false ws = ws

-- in round brackets, where it needs them
abbrev pub bracketed : Bool → (List Word → List Word) → List Word → List Word
bracketed needed body rest = opening needed (body (closing needed rest))

-- a bar stands before a term that ends a list
abbrev pub behind_bar : Position → List Word → List Word
behind_bar (At place) ws = ws
behind_bar Tail ws = sign signs.Bar ∷ ws

abbrev pub ends_list : Position → List ℕ → Bool
ends_list (At place) s = false
ends_list Tail s = bytes_eq s (codes "[]")

abbrev pub atom_words : List Entry → Style → Position → Bool → List ℕ → List Word → List Word
atom_words ops style position true s rest = rest
atom_words ops style position false s rest = behind_bar position (bracketed (is_bracketed_atom ops style (place_of position) s) (λ ws. name style s ∷ ws) rest)

-- functional notation: the functor and the opening bracket, before the arguments
abbrev pub called : Style → Position → List ℕ → List Word → List Word
called style position s ws = behind_bar position (functor style s ∷ sign signs.Open ∷ ws)

abbrev pub alone_words : Style → Position → List ℕ → Alone → (Position → List Word → List Word) → List Word → List Word
alone_words style position s (alone.Letter n) a rest = behind_bar position (plain (letter_text n) ∷ rest)
alone_words style position s alone.Curly a rest = behind_bar position (sign signs.OpenCurly ∷ a (At whole) (sign signs.CloseCurly ∷ rest))
alone_words style position s (alone.Before op) a rest =
    behind_bar position (bracketed (needs_brackets (place_of position) (operators.Before op)) (λ ws. prefix style s ∷ a (At (right_of_prefix op)) ws) rest)
alone_words style position s (alone.Behind op) a rest =
    behind_bar position (bracketed (needs_brackets (place_of position) (operators.Behind op)) (λ ws. a (At (left_of_postfix op)) (operator style s ∷ ws)) rest)
alone_words style position s alone.Functional a rest = called style position s (a (At argument) (sign signs.Close ∷ rest))

-- a list goes on behind a comma as long as what is left of it is a list
abbrev pub list_words : Position → (Position → List Word → List Word) → (Position → List Word → List Word) → List Word → List Word
list_words (At place) a b rest = sign signs.OpenSquare ∷ a (At argument) (b Tail (sign signs.CloseSquare ∷ rest))
list_words Tail a b rest = sign signs.Comma ∷ a (At argument) (b Tail rest)

abbrev pub pair_words : Style → Position → List ℕ → Pair → (Position → List Word → List Word) → (Position → List Word → List Word) → List Word → List Word
pair_words style position s pair.List a b rest = list_words position a b rest
pair_words style position s (pair.Between op) a b rest =
    behind_bar position (bracketed (needs_brackets (place_of position) (operators.Between op)) (λ ws. a (At (left_of op)) (operator style s ∷ b (At (right_of op)) ws)) rest)
pair_words style position s pair.Functional a b rest =
    called style position s (a (At argument) (sign signs.Comma ∷ b (At argument) (sign signs.Close ∷ rest)))

unfoldable mutual
  -- the words of a term in its position, before the rest
  pub words : List Entry → Style → Position → Tree → List Word → List Word
  words ops style position (var n) rest = behind_bar position (variable n ∷ rest)
  words ops style position (int i) rest = behind_bar position (integer i ∷ rest)
  words ops style position (atom s) rest = atom_words ops style position (ends_list position s) s rest
  words ops style position (compound s none) rest = called style position s (sign signs.Close ∷ rest)
  words ops style position (compound s (more a none)) rest = alone_words style position s (alone_form ops style s (int_of a)) (λ p ws. words ops style p a ws) rest
  words ops style position (compound s (more a (more b none))) rest =
      pair_words style position s (pair_form ops style s) (λ p ws. words ops style p a ws) (λ p ws. words ops style p b ws) rest
  words ops style position (compound s (more a (more b (more c args)))) rest =
      called style position s (words ops style (At argument) a (sign signs.Comma ∷ words ops style (At argument) b (others ops style (more c args) rest)))

  -- the words of arguments behind another, each behind a comma, and the closing bracket
  pub others : List Entry → Style → Trees → List Word → List Word
  others ops style none rest = sign signs.Close ∷ rest
  others ops style (more a args) rest = sign signs.Comma ∷ words ops style (At argument) a (others ops style args rest)

-- the text of a term, whose variables are _1, _2, .. by first occurrence
abbrev pub written : List Entry → Style → Tree → List ℕ
written ops style t = text_of (words ops style (At whole) (copied 1 t) [])

-- the end of a clause: behind a symbol character a space stands before it
abbrev pub end_text : Bool → List ℕ
end_text true = codes " ." ++ 10 ∷ []
end_text false = codes "." ++ 10 ∷ []

-- a clause on a line of its own, as it is listed
abbrev pub clause_text : List Entry → Tree → List ℕ
clause_text ops t = let text = written ops Listed t in text ++ end_text (is_symbol (last_byte text))
