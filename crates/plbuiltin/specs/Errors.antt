-- Errors of arguments, and which of several counts.
use Rattle.std.specs.Prelude.{List, [], ◌∷◌, codes, Option, Some, None}
use Rattle.plterm.specs.Tree.{Tree, var, int, atom, compound}
use Rattle.plerror.specs.Errors.{type_error}

-- the error of an argument that is to be a variable or an atom
abbrev pub atom_error : Tree → Option Tree
atom_error (var x) = None
atom_error (int i) = Some (type_error (codes "atom") (int i))
atom_error (atom name) = None
atom_error (compound f ts) = Some (type_error (codes "atom") (compound f ts))

-- the first error counts
abbrev pub first_error : List (Option Tree) → Option Tree
first_error [] = None
first_error (Some e ∷ es) = Some e
first_error (None ∷ es) = first_error es
