-- Conversion a node at a time.
use Rattle.std.specs.Prelude.{List, [], ◌∷◌, ◌++◌, Option, Some, option_map, option_and_then}
use Rattle.plterm.specs.declared.node.Node.{Node}
use Rattle.plterm.specs.Tree.{Tree}
use Rattle.plterm.specs.Reading.{spelling}
use Rattle.plclause.specs.Conversion.{converted}

-- both lists, if there are both
abbrev pub joined : Option (List Node) → Option (List Node) → Option (List Node)
joined a b = option_and_then (λ ms. option_map (λ ns. ms ++ ns) b) a

-- the nodes of the goals that the terms stand for
abbrev pub goal_nodes : List Tree → Option (List Node)
goal_nodes [] = Some []
goal_nodes (t ∷ ts) = joined (option_map spelling (converted t)) (goal_nodes ts)
