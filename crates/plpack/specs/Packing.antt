-- The bytes of a term.
use Rattle.std.specs.Prelude.{ℕ, ◌≤◌, ◌^◌, List, ◌∷◌, ◌++◌, length}
use Rattle.std.specs.List.{flat_map}
use Rattle.std.specs.Int.{w16, w64, to_be_bytes, cast_unsigned}
use Rattle.plterm.specs.declared.node.Node.{Node}
use Rattle.plterm.specs.declared.node.Node.TheVariants.{Var, Int, Atom, Compound}
use Rattle.plterm.specs.Tree.{Tree}
use Rattle.plterm.specs.Reading.{spelling, AllFit}
use Rattle.plterm.specs.Variables.{copied, variables}

-- a name and, before it, how many bytes it has
abbrev pub name_item : List ℕ → List ℕ
name_item s = to_be_bytes w16 (length s) ++ s

-- the bytes of a node
abbrev pub item : Node → List ℕ
item (Var v) = 0 ∷ to_be_bytes w64 v
item (Int i) = 1 ∷ to_be_bytes w64 (cast_unsigned w64 i)
item (Atom s) = 2 ∷ name_item s
item (Compound s k) = 3 ∷ (to_be_bytes w16 k ++ name_item s)

-- the bytes of a tree: of each node in prefix order, its variables 0, 1, .. by first occurrence
abbrev pub packed : Tree → List ℕ
packed t = flat_map item (spelling (copied 0 t))

-- what each term is: its nodes fit, and eight bytes hold the numbers of its variables
pub record IsPackable (t : Tree) : Type 0 where
  pub fits : AllFit (spelling t)
  pub numbers : length (variables t) ≤ 2 ^ 64
