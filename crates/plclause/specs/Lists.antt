-- Terms that hold others in a row: sequences and lists.
use Rattle.std.specs.Prelude.{ℕ, List, [], ◌∷◌, ◌++◌, Bool, true, false, if◌then◌else◌, Option, Some, None, is_some, codes, option_map}
use Rattle.std.specs.Str.{bytes_eq}
use Rattle.plterm.specs.Tree.{Tree, var, int, atom, compound, none, more, list_of}

-- the one argument of a compound of a name
abbrev pub only_if : Bool → Tree → Option Tree
only_if true t = Some t
only_if false t = None

abbrev pub only_of : List ℕ → List ℕ → List Tree → Option Tree
only_of name s [] = None
only_of name s (t ∷ []) = only_if (bytes_eq s name) t
only_of name s (t ∷ u ∷ ts) = None

abbrev pub only_argument : List ℕ → Tree → Option Tree
only_argument name (compound s ts) = only_of name s (list_of ts)
only_argument name t = None

-- the two arguments of a compound of a name
abbrev pub pair_if : Bool → Tree → Tree → Option (Tree × Tree)
pair_if true a b = Some (a, b)
pair_if false a b = None

abbrev pub pair_of : List ℕ → Tree → Option (Tree × Tree)
pair_of name (compound s (more a (more b none))) = pair_if (bytes_eq s name) a b
pair_of name t = None

-- what stands left of an operator's signs, along its right operands, and what stands behind the last
abbrev also_if : Bool → Tree → List Tree → List Tree
also_if true a rest = a ∷ rest
also_if false a rest = []

abbrev pub items : List ℕ → Tree → List Tree
items name (compound s (more a (more b none))) = also_if (bytes_eq s name) a (items name b)
items name t = []

abbrev else_if : Bool → Tree → Tree → Tree
else_if true rest whole = rest
else_if false rest whole = whole

abbrev pub behind : List ℕ → Tree → Tree
behind name (compound s (more a (more b none))) = else_if (bytes_eq s name) (behind name b) (compound s (more a (more b none)))
behind name t = t

abbrev pub is_atom : List ℕ → Tree → Bool
is_atom name (atom s) = bytes_eq s name
is_atom name t = false

-- it is built as a list is
abbrev pub is_list : Tree → Bool
is_list (var v) = false
is_list (int i) = false
is_list (atom s) = bytes_eq s (codes "[]")
is_list (compound s ts) = is_some (pair_of (codes ".") (compound s ts))

-- the elements of a list, if the term is one
abbrev pub elements : Tree → Option (List Tree)
elements t = if is_atom (codes "[]") (behind (codes ".") t) then Some (items (codes ".") t) else None

-- the members of a sequence with commas between them
abbrev pub members : Tree → List Tree
members t = items (codes ",") t ++ behind (codes ",") t ∷ []

-- a part of each, if each has one
abbrev pub one_more : {A : Type 0} → Option A → Option (List A) → Option (List A)
one_more None rest = None
one_more (Some x) rest = option_map (λ xs. x ∷ xs) rest

abbrev pub each : {A : Type 0} → (Tree → Option A) → List Tree → Option (List A)
each f [] = Some []
each f (t ∷ ts) = one_more (f t) (each f ts)
