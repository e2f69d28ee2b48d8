-- Closing the open nodes that have all their arguments.
use Rattle.std.specs.Prelude.{◌≡◌, List}
use Rattle.plterm.specs.declared.node.Node.{Node}
use Rattle.plterm.specs.declared.postfix.Open.{Open}
use Rattle.plterm.specs.Tree.{Tree}
use Rattle.plterm.specs.Reading.{reading, IsForest}
use Rattle.plterm.specs.Postfix.{closed, awaited, IsAwaiting}

-- the open nodes (the innermost first) and the nodes made (in prefix order) after closing, for these trees to come
pub record Closes (old new : List Open) (from made : List Node) (trees : List Tree) : Type 0 where
  pub forest : IsForest made
  pub awaiting : IsAwaiting new trees (reading made)
  pub same : awaited new trees (reading made) ≡ closed old trees (reading from)
