-- The signs that a term is written with: for each word of its text the signs of the word's tokens.
use Rattle.std.specs.Prelude.{◌≤◌, ◌<◌, ℕ, suc, ℤ, pos, negsuc, List, [], ◌∷◌, Bool, true, false, ◌&&◌, not, Option, Some, None, if◌then◌else◌, decimal}
use Rattle.std.specs.Str.{bytes_eq}
use Rattle.plterm.specs.Tree.{Tree, var, int, atom, compound, Trees, none, more}
use Rattle.plops.specs.declared.operator.Operator.TheVariants as operators
use Rattle.plops.specs.declared.table.OpTable.{OpTable}
use Rattle.plops.specs.Sane.{comma}
use Rattle.plread.specs.Signs.{Sign}
use Rattle.plread.specs.Signs as tok
use Rattle.plread.specs.Texts.{nil, curly, minus}
use Rattle.plread.specs.Reading.{count}
use Rattle.plwrite.specs.declared.style.Style.{Style}
use Rattle.plwrite.specs.declared.text.Sign as punctuation
use Rattle.plwrite.specs.declared.text.Sign.TheVariants as marks
use Rattle.plwrite.specs.declared.place.Position.{Position}
use Rattle.plwrite.specs.declared.place.Position.TheVariants.{At, Tail}
use Rattle.plwrite.specs.declared.form.Alone.{Alone}
use Rattle.plwrite.specs.declared.form.Alone.TheVariants as alone
use Rattle.plwrite.specs.declared.form.Pair.{Pair}
use Rattle.plwrite.specs.declared.form.Pair.TheVariants as pair
use Rattle.plwrite.specs.Names.{is_bare, is_empty_brackets}
use Rattle.plwrite.specs.Words.{Word, first_byte, edge_of, touches, sign, prefix, operator}
use Rattle.plwrite.specs.Places.{whole, argument, right_of_prefix, left_of, right_of, left_of_postfix, needs_brackets, is_bracketed_atom, place_of}
use Rattle.plwrite.specs.Writing.{int_of, alone_form, pair_form, ends_list}

-- The signs of a part are a function of the word before it, if there is one, and of what follows it.

-- a word that begins with this byte stands directly behind the word before it: there is one, and no space is put
abbrev pub is_direct : Option Word → ℕ → Bool
is_direct None next = false
is_direct (Some w) next = not (touches (edge_of w) next)

abbrev pub after : punctuation.Sign → Option Word
after s = Some (sign s)

-- an opening bracket
abbrev pub paren : Bool → Sign
paren true = tok.OpenCall
paren false = tok.Open

abbrev pub opening : Option Word → Sign
opening before = paren (is_direct before 40)

abbrev pub name_sign : List ℕ → Sign
name_sign s = tok.Name s (is_bare s)

abbrev pub functor_sign : List ℕ → Sign
functor_sign s = tok.Name s (is_bare s && not (is_empty_brackets s))

-- an infix or postfix operator: the comma is punctuation there
abbrev pub operator_sign : List ℕ → Sign
operator_sign s = if bytes_eq s comma then tok.Comma else name_sign s

abbrev pub integer_signs : ℤ → Option Word → List Sign → List Sign
integer_signs (pos n) before rest = tok.Integer n (is_direct before (first_byte (decimal n))) ∷ rest
integer_signs (negsuc n) before rest = tok.Name minus true ∷ tok.Integer (suc n) true ∷ rest

abbrev pub atom_signs : List ℕ → List Sign → List Sign
atom_signs s rest =
    if bytes_eq s nil then tok.OpenSquare ∷ tok.CloseSquare ∷ rest
    else (if bytes_eq s curly then tok.OpenCurly ∷ tok.CloseCurly ∷ rest
    else name_sign s ∷ rest)

-- in round brackets, where it needs them
abbrev pub bracketed : Bool → (Option Word → List Sign → List Sign) → Option Word → List Sign → List Sign
bracketed true body before rest = opening before ∷ body (after marks.Open) (tok.Close ∷ rest)
bracketed false body before rest = body before rest

-- a bar stands before a term that ends a list
abbrev pub behind_bar : Position → (Option Word → List Sign) → Option Word → List Sign
behind_bar (At place) body before = body before
behind_bar Tail body before = tok.Bar ∷ body (after marks.Bar)

abbrev pub position_signs : OpTable → Style → Position → Bool → List ℕ → Option Word → List Sign → List Sign
position_signs ops style position true s before rest = rest
position_signs ops style position false s before rest =
    behind_bar position (λ o. bracketed (is_bracketed_atom ops style (place_of position) s) (λ p ws. atom_signs s ws) o rest) before

abbrev pub called_signs : Position → List ℕ → List Sign → Option Word → List Sign
called_signs position s inside before = behind_bar position (λ o. functor_sign s ∷ tok.OpenCall ∷ inside) before

abbrev pub alone_signs : Style → Position → List ℕ → Alone → (Position → Option Word → List Sign → List Sign) → Option Word → List Sign → List Sign
alone_signs style position s (alone.Letter n) a o rest = called_signs position s (a (At argument) (after marks.Open) (tok.Close ∷ rest)) o
alone_signs style position s alone.Curly a o rest = behind_bar position (λ p. tok.OpenCurly ∷ a (At whole) (after marks.OpenCurly) (tok.CloseCurly ∷ rest)) o
alone_signs style position s (alone.Before op) a o rest =
    behind_bar position (λ p. bracketed (needs_brackets (place_of position) (operators.Before op)) (λ q ws. name_sign s ∷ a (At (right_of_prefix op)) (Some (prefix style s)) ws) p rest) o
alone_signs style position s (alone.Behind op) a o rest =
    behind_bar position (λ p. bracketed (needs_brackets (place_of position) (operators.Behind op)) (λ q ws. a (At (left_of_postfix op)) q (operator_sign s ∷ ws)) p rest) o
alone_signs style position s alone.Functional a o rest = called_signs position s (a (At argument) (after marks.Open) (tok.Close ∷ rest)) o

-- what is left of a list begins with punctuation, whatever stands before it
abbrev pub list_signs : Position → (Position → Option Word → List Sign → List Sign) → (Position → Option Word → List Sign → List Sign) → List Sign → List Sign
list_signs (At place) a b rest = tok.OpenSquare ∷ a (At argument) (after marks.OpenSquare) (b Tail None (tok.CloseSquare ∷ rest))
list_signs Tail a b rest = tok.Comma ∷ a (At argument) (after marks.Comma) (b Tail None rest)

abbrev pub pair_signs : Style → Position → List ℕ → Pair → (Position → Option Word → List Sign → List Sign) → (Position → Option Word → List Sign → List Sign) → Option Word → List Sign → List Sign
pair_signs style position s pair.List a b o rest = list_signs position a b rest
pair_signs style position s (pair.Between op) a b o rest =
    behind_bar position (λ p. bracketed (needs_brackets (place_of position) (operators.Between op)) (λ q ws. a (At (left_of op)) q (operator_sign s ∷ b (At (right_of op)) (Some (operator style s)) ws)) p rest) o
pair_signs style position s pair.Functional a b o rest =
    called_signs position s (a (At argument) (after marks.Open) (tok.Comma ∷ b (At argument) (after marks.Comma) (tok.Close ∷ rest))) o

unfoldable mutual
  -- the signs of a term in its position, behind the word before it, and before the rest
  pub signs : OpTable → Style → Position → Tree → Option Word → List Sign → List Sign
  signs ops style position (var n) o rest = behind_bar position (λ p. tok.Variable n ∷ rest) o
  signs ops style position (int i) o rest = behind_bar position (λ p. integer_signs i p rest) o
  signs ops style position (atom s) o rest = position_signs ops style position (ends_list position s) s o rest
  signs ops style position (compound s none) o rest = called_signs position s (tok.Close ∷ rest) o
  signs ops style position (compound s (more a none)) o rest = alone_signs style position s (alone_form ops style s (int_of a)) (λ p q ws. signs ops style p a q ws) o rest
  signs ops style position (compound s (more a (more b none))) o rest =
      pair_signs style position s (pair_form ops style s) (λ p q ws. signs ops style p a q ws) (λ p q ws. signs ops style p b q ws) o rest
  signs ops style position (compound s (more a (more b (more c args)))) o rest =
      called_signs position s (signs ops style (At argument) a (after marks.Open) (tok.Comma ∷ signs ops style (At argument) b (after marks.Comma) (other_signs ops style (more c args) rest))) o

  -- the signs of arguments behind another, each behind a comma, and the closing bracket
  pub other_signs : OpTable → Style → Trees → List Sign → List Sign
  other_signs ops style none rest = tok.Close ∷ rest
  other_signs ops style (more a args) rest = tok.Comma ∷ signs ops style (At argument) a (after marks.Comma) (other_signs ops style args rest)

-- the signs of a term as a clause
abbrev pub clause_signs : OpTable → Style → Tree → List Sign
clause_signs ops style t = signs ops style (At whole) t None (tok.End ∷ [])

-- an integer has 64 bits, and a compound 1 to 1,024 arguments
abbrev pub Fits : ℤ → Type 0
Fits (pos n) = n < 9223372036854775808
Fits (negsuc n) = n < 9223372036854775808

unfoldable mutual
  pub IsWhole : Tree → Type 0
  IsWhole (var n) = Unit {0}
  IsWhole (int i) = Fits i
  IsWhole (atom s) = Unit {0}
  IsWhole (compound s args) = (0 < count args) × (count args ≤ 1024) × AreWhole args

  pub AreWhole : Trees → Type 0
  AreWhole none = Unit {0}
  AreWhole (more t args) = IsWhole t × AreWhole args
