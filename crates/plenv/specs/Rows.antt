-- Terms of compiled clauses.
use Rattle.std.specs.Prelude.{ℕ, ◌+◌, ◌≤◌, List, [], ◌∷◌, length, get_or}
use Rattle.plterm.specs.Tree.{Tree, var}
use Rattle.plterm.specs.Variables.{AllBelow}
use Rattle.platoms.specs.Names.{Table}
use Rattle.plcode.specs.declared.node.Node.{Node}
use Rattle.plcode.specs.Nodes.{Whole, tree, values, row}
use Rattle.plenv.specs.declared.slot.Row.{Row}
use Rattle.plenv.specs.Env.{Env}

abbrev pub row_at : Table → List Node → Row → List Tree
row_at t nodes r = row t nodes r.at r.count

abbrev pub AllBelowEach : ℕ → List Tree → Type 0
AllBelowEach n [] = Unit {0}
AllBelowEach n (t ∷ ts) = AllBelow n t × AllBelowEach n ts

-- the slots from a place on hold the variables of some terms
pub record CoversAll (e : Env) (base : ℕ) (ts : List Tree) : Type 0 where
  pub width : ℕ
  pub below : AllBelowEach width ts
  pub within : base + width ≤ length e.slots

-- the term of the node at a place
abbrev pub tree_at : Table → List Node → ℕ → Tree
tree_at t nodes at = tree (get_or (values t nodes) at (Whole (var 0)))
