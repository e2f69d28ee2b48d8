-- Texts: atomic terms by their characters, and lists of characters and of codes (ISO/IEC 13211-1 6.3.7, 7.1.4).
use Rattle.std.specs.Prelude.{ℕ, nat_le, ℤ, pos, negsuc, List, [], ◌∷◌, map, length, Result, Ok, Err, codes, if◌then◌else◌}
use Rattle.std.specs.Str.{chars, encode_utf8_all}
use Rattle.std.specs.Fmt.{signed_decimal}
use Rattle.plterm.specs.Tree.{Tree, var, int, atom}
use Rattle.pllex.specs.Escapes.{is_scalar}
use Rattle.plread.specs.Texts.{listed, code_tree, char_tree}
use Rattle.plnames.specs.declared.kind.Spelling.{Spelling}
use Rattle.plnames.specs.declared.kind.Spelling.TheVariants.{Characters, Codes}
use Rattle.plerror.specs.Errors.{instantiation_error, type_error, representation_error}
use Rattle.plbuiltin.specs.Lists.{Checked, Whole, Amiss, checked, elements_of, is_partial}

-- what is found, or the error
abbrev pub Found : Type 0 → Type 0
Found A = Result A Tree

-- the text of an integer
abbrev pub number_text : ℤ → List ℕ
number_text i = signed_decimal i

-- the list that spells a text
abbrev pub spelled : Spelling → List ℕ → Tree
spelled Characters text = listed (map char_tree (chars text))
spelled Codes text = listed (map code_tree (chars text))

-- the one character of a name
abbrev pub one_of : List ℕ → Tree → Found ℕ
one_of (c ∷ []) t = Ok c
one_of cs t = Err (type_error (codes "character") t)

abbrev pub of_code : ℕ → Found ℕ
of_code c = if is_scalar c then Ok c else Err (representation_error (codes "character_code"))

-- the character that an element of such a list stands for
abbrev pub character_of : Spelling → Tree → Found ℕ
character_of k (var x) = Err instantiation_error
character_of Characters (atom name) = one_of (chars name) (atom name)
character_of Characters t = Err (type_error (codes "character") t)
character_of Codes (int (pos c)) = of_code c
character_of Codes (int (negsuc c)) = Err (representation_error (codes "character_code"))
character_of Codes t = Err (type_error (codes "integer") t)

abbrev pub behind : Found ℕ → Found (List ℕ) → Found (List ℕ)
behind (Err e) cs = Err e
behind (Ok c) (Err e) = Err e
behind (Ok c) (Ok cs) = Ok (c ∷ cs)

-- of the elements the first one from the left that stands for none counts
abbrev pub characters_of : Spelling → List Tree → Found (List ℕ)
characters_of k [] = Ok []
characters_of k (t ∷ ts) = behind (character_of k t) (characters_of k ts)

abbrev pub as_text : Found (List ℕ) → Found (List ℕ)
as_text (Ok cs) = Ok (encode_utf8_all cs)
as_text (Err e) = Err e

abbrev pub text_of : Spelling → Checked → Found (List ℕ)
text_of k (Whole ts) = as_text (characters_of k ts)
text_of k (Amiss e) = Err e

-- the text that a list spells; a variable as its end or as an element is looked for first, then whether it is a list
abbrev pub text_in : Spelling → Tree → Found (List ℕ)
text_in k l = if is_partial (elements_of l) then Err instantiation_error else text_of k (checked l)

-- the atom of a text
abbrev pub atom_of : List ℕ → Found Tree
atom_of text = if nat_le (length text) 65535 then Ok (atom text) else Err (representation_error (codes "max_atom_length"))
