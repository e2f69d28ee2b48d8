-- The parts of texts in their order (ISO/IEC 13211-1 8.16.2, 8.16.3).
use Rattle.std.specs.Prelude.{ℕ, zero, suc, pos, negsuc, List, [], ◌∷◌, ◌++◌, length, take, drop, codes, Option, Some, None, Ok, Err}
use Rattle.std.specs.Str.{chars, encode_utf8_all}
use Rattle.plterm.specs.Tree.{Tree, var, int, atom, compound}
use Rattle.plprogram.specs.declared.settings.Settings.{Settings}
use Rattle.plbuiltin.specs.Errors.{atom_error, first_error}
use Rattle.plerror.specs.Errors.{instantiation_error, type_error, domain_error}
use Rattle.plbuiltin.specs.Solution.{Solution, Solved, Raises, Gives, fails, unifies, unless, are}
use Rattle.plbuiltin.specs.Texts.{Found, number_text, atom_of}

-- the atom of some characters
abbrev pub atom_spelled : List ℕ → Tree
atom_spelled cs = atom (encode_utf8_all cs)

-- a part of a text: b characters stand before it, it has l, and r stand behind it
abbrev pub part : List ℕ → List Tree → ℕ → ℕ → ℕ → Solution
part cs us b l r = are us (int (pos b) ∷ int (pos l) ∷ int (pos r) ∷ atom_spelled (take l (drop b cs)) ∷ [])

-- the parts that begin there, from l characters on
abbrev pub parts_at : List ℕ → List Tree → ℕ → ℕ → ℕ → List Solution
parts_at cs us b l zero = part cs us b l zero ∷ []
parts_at cs us b l (suc r) = part cs us b l (suc r) ∷ parts_at cs us b (suc l) r

-- the parts with at least b characters before them, behind which k stand
abbrev pub parts_from : List ℕ → List Tree → ℕ → ℕ → List Solution
parts_from cs us b zero = parts_at cs us b 0 zero
parts_from cs us b (suc k) = parts_at cs us b 0 (suc k) ++ parts_from cs us (suc b) k

-- all parts, by how many characters stand before them, and then by how many they have
abbrev pub parts : List ℕ → List Tree → List Solution
parts cs us = parts_from cs us 0 (length cs)

-- a text is what its first a characters and the others are, one behind the other
abbrev pub split : List ℕ → List Tree → ℕ → Solution
split cs us a = are us (atom_spelled (take a cs) ∷ atom_spelled (drop a cs) ∷ [])

-- the ways to divide it from there on, where k characters are left
abbrev pub splits_from : List ℕ → List Tree → ℕ → ℕ → List Solution
splits_from cs us a zero = split cs us a ∷ []
splits_from cs us a (suc k) = split cs us a ∷ splits_from cs us (suc a) k

-- all ways to divide it, the shortest front first
abbrev pub splits : List ℕ → List Tree → List Solution
splits cs us = splits_from cs us 0 (length cs)

-- the text of an atomic term
abbrev pub text_of : Tree → Option (List ℕ)
text_of (var x) = None
text_of (int i) = Some (number_text i)
text_of (atom name) = Some name
text_of (compound f ts) = None

-- an integer as its text
abbrev pub as_text : Tree → Tree
as_text (var x) = var x
as_text (int i) = atom (number_text i)
as_text (atom name) = atom name
as_text (compound f ts) = compound f ts

-- the error of an argument that is to be a variable, an atom or an integer
abbrev pub atomic_error : Tree → Option Tree
atomic_error (var x) = None
atomic_error (int i) = None
atomic_error (atom name) = None
atomic_error (compound f ts) = Some (type_error (codes "atomic") (compound f ts))

-- that of one that is to be a variable or a number of characters
abbrev pub count_error : Tree → Option Tree
count_error (var x) = None
count_error (int (pos n)) = None
count_error (int (negsuc n)) = Some (domain_error (codes "not_less_than_zero") (int (negsuc n)))
count_error t = Some (type_error (codes "integer") t)

-- the parts of an atom (8.16.3)
abbrev pub sub_atom : List Tree → Settings → Solved
sub_atom (var x ∷ b ∷ l ∷ r ∷ s ∷ []) settings = Raises instantiation_error
sub_atom (atom name ∷ b ∷ l ∷ r ∷ s ∷ []) settings =
    unless (first_error (atom_error s ∷ count_error b ∷ count_error l ∷ count_error r ∷ [])) (Gives (parts (chars name) (b ∷ l ∷ r ∷ s ∷ [])) [] settings)
sub_atom (a ∷ b ∷ l ∷ r ∷ s ∷ []) settings = Raises (type_error (codes "atom") a)
sub_atom us settings = fails settings

-- a text is to be divided that is a variable
abbrev pub lacks : Tree → Tree → Tree → Option Tree
lacks (var x) b (var z) = Some instantiation_error
lacks a (var y) (var z) = Some instantiation_error
lacks a b c = None

-- the whole is what two texts are, one behind the other; or a text is divided
abbrev pub whole : Found Tree → Tree → Settings → Solved
whole (Ok t) c settings = unifies (as_text c) t settings
whole (Err e) c settings = Raises e

abbrev pub divided : Option (List ℕ) → List Tree → Settings → Solved
divided (Some text) us settings = Gives (splits (chars text) us) [] settings
divided None us settings = fails settings

abbrev pub concatenated : Option (List ℕ) → Option (List ℕ) → Tree → Tree → Tree → Settings → Solved
concatenated (Some s) (Some t) a b c settings = whole (atom_of (s ++ t)) c settings
concatenated s t a b c settings = divided (text_of c) (as_text a ∷ as_text b ∷ []) settings

-- integers stand for their texts (8.16.2)
abbrev pub atom_concat : List Tree → Settings → Solved
atom_concat (a ∷ b ∷ c ∷ []) settings =
    unless (first_error (lacks a b c ∷ atomic_error a ∷ atomic_error b ∷ atomic_error c ∷ [])) (concatenated (text_of a) (text_of b) a b c settings)
atom_concat us settings = fails settings
