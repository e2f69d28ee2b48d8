-- Terms without variables.
use Rattle.std.specs.Prelude.{Bool, true, false, ◌&&◌}
use Rattle.plterm.specs.declared.node.Node.{Node}
use Rattle.plterm.specs.declared.node.Node.TheVariants.{Var, Int, Atom, Compound}
use Rattle.plterm.specs.Tree.{Tree, var, int, atom, compound, Trees, none, more}

-- no variable stands in it
unfoldable mutual
  pub is_ground : Tree → Bool
  is_ground (var v) = false
  is_ground (int i) = true
  is_ground (atom s) = true
  is_ground (compound s ts) = are_ground ts

  pub are_ground : Trees → Bool
  are_ground none = true
  are_ground (more t ts) = is_ground t && are_ground ts

-- a variable among nodes
abbrev pub is_var : Node → Bool
is_var (Var v) = true
is_var (Int i) = false
is_var (Atom s) = false
is_var (Compound s k) = false
