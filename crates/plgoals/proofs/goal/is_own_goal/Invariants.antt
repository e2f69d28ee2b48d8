use Rattle.std.proofs.Common.{◌≡◌, Some}
use Rattle.plclause.specs.Conversion.{converted}
use Rattle.plcells.specs.Store.{value, AreValues}
use Rattle.plgoals.proofs.Walking.{AllOwn, left_terms, weigh_left}
use Rattle.plgoals.proofs.goal.is_own_goal.Given as goal

abbrev pub invariant-loop-w : goal.invariant-loop-w
invariant-loop-w l = record {
  values : AreValues l.heap l.stack.items;
  owns : AllOwn (left_terms l.heap l.stack.items) → converted (value l.heap l.fn.v) ≡ Some (value l.heap l.fn.v);
}

abbrev pub decreases-loop-w : goal.decreases-loop-w
decreases-loop-w l = weigh_left l.heap l.stack.items
