use Rattle.std.proofs.Common.{vec_len}
use Rattle.plterm.proofs.Postfixes.{Turns}
use Rattle.plterm.proofs.postfix.reordered.Given as goal

abbrev pub invariant-nodes : goal.invariant-nodes
invariant-nodes l = Turns l.initial.nodes.items l.waiting.items l.nodes.items l.made.items

abbrev pub decreases-nodes : goal.decreases-nodes
decreases-nodes l = vec_len l.nodes
