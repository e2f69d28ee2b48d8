-- Built-in predicates on atoms (ISO/IEC 13211-1 8.16).
use Rattle.std.specs.Prelude.{ℕ, ℤ, pos, negsuc, List, [], ◌∷◌, length, codes, Ok, Err, Option, Some, None}
use Rattle.std.specs.Str.{chars}
use Rattle.plterm.specs.Tree.{Tree, var, int, atom, compound}
use Rattle.plread.specs.Texts.{char_tree, code_tree}
use Rattle.plnumber.specs.Numbers.{number_of}
use Rattle.plnames.specs.declared.kind.Atoms.{Atoms}
use Rattle.plnames.specs.declared.kind.Atoms.TheVariants.{Length, Spelled, CharacterCode, NumberSpelled, Number, Concatenation, Part}
use Rattle.plnames.specs.declared.kind.Spelling.{Spelling}
use Rattle.plnames.specs.declared.kind.Spelling.TheVariants.{Characters, Codes}
use Rattle.plprogram.specs.declared.settings.Settings.{Settings}
use Rattle.plerror.specs.Errors.{instantiation_error, type_error, domain_error, syntax_error}
use Rattle.plbuiltin.specs.Solution.{Solved, Raises, fails, unifies}
use Rattle.plbuiltin.specs.Pieces.{atom_concat, sub_atom}
use Rattle.plbuiltin.specs.Texts.{Found, number_text, spelled, character_of, text_in, atom_of}

-- how many characters a name has
abbrev pub count_of : List ℕ → Tree
count_of name = int (pos (length (chars name)))

-- the length is a variable, or an integer that is not negative
abbrev pub has_length : List ℕ → Tree → Settings → Solved
has_length name (var x) settings = unifies (var x) (count_of name) settings
has_length name (int (pos n)) settings = unifies (int (pos n)) (count_of name) settings
has_length name (int (negsuc n)) settings = Raises (domain_error (codes "not_less_than_zero") (int (negsuc n)))
has_length name l settings = Raises (type_error (codes "integer") l)

-- the atom is looked at first; an integer is none (8.16.1)
abbrev pub atom_length : List Tree → Settings → Solved
atom_length (var x ∷ l ∷ []) settings = Raises instantiation_error
atom_length (atom name ∷ l ∷ []) settings = has_length name l settings
atom_length (a ∷ l ∷ []) settings = Raises (type_error (codes "atom") a)
atom_length us settings = fails settings

-- a term is unified with what was found
abbrev pub is_found : Tree → Found Tree → Settings → Solved
is_found t (Ok u) settings = unifies t u settings
is_found t (Err e) settings = Raises e

abbrev pub named : Tree → Found (List ℕ) → Settings → Solved
named a (Ok text) settings = is_found a (atom_of text) settings
named a (Err e) settings = Raises e

-- an atom or an integer is spelled, and a variable made an atom (8.16.4, 8.16.5)
abbrev pub spell : Spelling → Tree → Tree → Settings → Solved
spell k (var x) l settings = named (var x) (text_in k l) settings
spell k (int i) l settings = unifies l (spelled k (number_text i)) settings
spell k (atom name) l settings = unifies l (spelled k name) settings
spell k (compound f ts) l settings = Raises (type_error (codes "atomic") (compound f ts))

-- a variable is unified with the character of a code
abbrev pub of_code : Tree → Found ℕ → Settings → Solved
of_code c (Ok code) settings = unifies c (char_tree code) settings
of_code c (Err e) settings = Raises e

-- a term that is a code is unified with that of a character
abbrev pub is_code : ℕ → Tree → Found ℕ → Settings → Solved
is_code code n (Ok other) settings = unifies n (code_tree code) settings
is_code code n (Err e) settings = Raises e

abbrev pub has_code : Found ℕ → Tree → Settings → Solved
has_code (Ok code) (var x) settings = unifies (var x) (code_tree code) settings
has_code (Ok code) n settings = is_code code n (character_of Codes n) settings
has_code (Err e) n settings = Raises e

-- (8.16.6)
abbrev pub char_code : Tree → Tree → Settings → Solved
char_code (var x) n settings = of_code (var x) (character_of Codes n) settings
char_code c n settings = has_code (character_of Characters c) n settings

-- a term is unified with the integer that a text is
abbrev pub is_number : Tree → Option ℤ → Settings → Solved
is_number n (Some i) settings = unifies n (int i) settings
is_number n None settings = Raises (syntax_error (codes "illegal_number"))

-- a list that spells a text is read, and else an integer spelled (8.16.7, 8.16.8)
abbrev pub number_spelled : Spelling → Tree → Tree → Found (List ℕ) → Settings → Solved
number_spelled k (var x) l (Ok text) settings = is_number (var x) (number_of text) settings
number_spelled k (var x) l (Err e) settings = Raises e
number_spelled k (int i) l (Ok text) settings = is_number (int i) (number_of text) settings
number_spelled k (int i) l (Err e) settings = unifies l (spelled k (number_text i)) settings
number_spelled k t l text settings = Raises (type_error (codes "number") t)

-- the integer that a text is, or failure
abbrev pub number_or_none : Tree → Option ℤ → Settings → Solved
number_or_none n (Some i) settings = unifies n (int i) settings
number_or_none n None settings = fails settings

-- an atom is read as a number, and a variable made the atom of one
abbrev pub atom_number : Tree → Tree → Settings → Solved
atom_number (var x) (var y) settings = Raises instantiation_error
atom_number (var x) (int i) settings = unifies (var x) (atom (number_text i)) settings
atom_number (var x) n settings = Raises (type_error (codes "integer") n)
atom_number (atom name) (var y) settings = number_or_none (var y) (number_of name) settings
atom_number (atom name) (int i) settings = number_or_none (int i) (number_of name) settings
atom_number (atom name) n settings = Raises (type_error (codes "integer") n)
atom_number a n settings = Raises (type_error (codes "atom") a)

abbrev pub on_atoms : Atoms → List Tree → Settings → Solved
on_atoms Length us settings = atom_length us settings
on_atoms (Spelled k) (a ∷ l ∷ []) settings = spell k a l settings
on_atoms CharacterCode (c ∷ n ∷ []) settings = char_code c n settings
on_atoms (NumberSpelled k) (n ∷ l ∷ []) settings = number_spelled k n l (text_in k l) settings
on_atoms Number (a ∷ n ∷ []) settings = atom_number a n settings
on_atoms Concatenation us settings = atom_concat us settings
on_atoms Part us settings = sub_atom us settings
on_atoms b us settings = fails settings
