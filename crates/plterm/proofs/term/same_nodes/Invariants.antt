use Rattle.std.proofs.Common.{◌≡◌, take}
use Rattle.plterm.proofs.term.same_nodes.Given as goal

abbrev pub invariant-loop-node : goal.invariant-loop-node
invariant-loop-node l = l.made.items ≡ take l.node-index l.nodes
