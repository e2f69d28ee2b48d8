use Rattle.std.proofs.Common.{length}
use Rattle.plcells.specs.Store.{value, AreValues}
use Rattle.plcells.proofs.Taking.{Plants}
use Rattle.plgoals.proofs.Walking.{Leads, left_terms, weigh_left}
use Rattle.plgoals.proofs.goal.goal_nodes.Given as goal

abbrev pub invariant-loop-w : goal.invariant-loop-w
invariant-loop-w l = record {
  stacked : AreValues l.heap l.stack.items;
  values : AreValues l.heap l.goal.values.items;
  leads : Leads l.heap l.goal.values.items l.goal.nodes.items (left_terms l.heap l.stack.items) (value l.heap l.fn.v);
  plants : Plants l.goal.nodes.items (length l.stack.items);
}

abbrev pub decreases-loop-w : goal.decreases-loop-w
decreases-loop-w l = weigh_left l.heap l.stack.items
