use Rattle.std.proofs.Common.{◌≡◌}
use Rattle.plstack.specs.State.{goals_of, IsList}
use Rattle.plstack.proofs.stack.Stack.first.Given as goal

abbrev pub invariant-loop-step : goal.invariant-loop-step
invariant-loop-step l = record {
  there : IsList l.self l.list;
  same : goals_of l.self l.list ≡ goals_of l.self l.self.goals;
}

abbrev pub decreases-loop-step : goal.decreases-loop-step
decreases-loop-step l = l.list.rest
