-- Lists (6.3.5), and what a double-quoted item is by the flag double_quotes (7.11.2.5).
use Rattle.std.specs.Prelude.{ℕ, pos, List, map, length, nat_le, Option, Some, None, if◌then◌else◌, codes}
use Rattle.std.specs.Str.{chars}
use Rattle.std.specs.Char.{encode_utf8}
use Rattle.plterm.specs.Tree.{Tree, Trees, int, atom, compound, none, more, trees}
use Rattle.plops.specs.declared.flag.Quotes.{Quotes}
use Rattle.plops.specs.declared.flag.Quotes.TheVariants as quotes

-- the names of a list's cells, of the empty list, of a term in braces and of the sign of an integer
abbrev pub dot : List ℕ
dot = codes "."

abbrev pub nil : List ℕ
nil = codes "[]"

abbrev pub curly : List ℕ
curly = codes "{}"

abbrev pub minus : List ℕ
minus = codes "-"

-- a list with a tail
abbrev pub list_term : Trees → Tree → Tree
list_term none tail = tail
list_term (more t ts) tail = compound dot (more t (more (list_term ts tail) none))

-- the list of these terms
abbrev pub listed : List Tree → Tree
listed ts = list_term (trees ts) (atom nil)

-- the codes of a text's characters, and the characters as atoms
abbrev pub code_tree : ℕ → Tree
code_tree c = int (pos c)

abbrev pub char_tree : ℕ → Tree
char_tree c = atom (encode_utf8 c)

-- the term that a double-quoted item of this value is: an atom has at most 65,535 bytes
abbrev pub text_tree : Quotes → List ℕ → Option Tree
text_tree quotes.Codes value = Some (listed (map code_tree (chars value)))
text_tree quotes.Chars value = Some (listed (map char_tree (chars value)))
text_tree quotes.Atom value = if nat_le (length value) 65535 then Some (atom value) else None
