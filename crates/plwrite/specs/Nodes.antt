-- What a node shows of its term.
use Rattle.std.specs.Prelude.{ℤ, Option, Some, None}
use Rattle.plterm.specs.declared.node.Node.{Node}
use Rattle.plterm.specs.declared.node.Node.TheVariants.{Var, Int, Atom, Compound}

-- the integer that a node is
abbrev pub node_int : Node → Option ℤ
node_int (Var n) = None
node_int (Int i) = Some i
node_int (Atom s) = None
node_int (Compound s k) = None
