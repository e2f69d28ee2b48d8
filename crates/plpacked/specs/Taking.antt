-- What is written of a value.
use Rattle.std.specs.Prelude.{◌≡◌, ℕ, List, [], ◌∷◌, ◌++◌}
use Rattle.plterm.specs.declared.node.Node.{Node}
use Rattle.plterm.specs.Tree.{Tree}
use Rattle.plterm.specs.Variables.{with_node, numbered}
use Rattle.plpack.specs.Packing.{item}
use Rattle.plcells.specs.Store.{Store}
use Rattle.plcells.specs.Walking.{IsTaken}

-- of a term the item of its node was written, a variable by its place among those seen, and the cells of its arguments were put on a stack
pub record IsWritten (h : Store) (out now : List ℕ) (seen after : List ℕ) (left stack : List ℕ) (t : Tree) : Type 0 where
  pub node : Node
  pub taken : IsTaken h [] (node ∷ []) left stack t
  pub bytes : now ≡ out ++ item (numbered seen node)
  pub variables : after ≡ with_node seen node
