use Rattle.plenv.specs.Changes.{AddsVariables}
use Rattle.plenv.proofs.env.push_variables.Given as goal

abbrev pub invariant-loop-x : goal.invariant-loop-x
invariant-loop-x l = AddsVariables l.initial.heap l.heap l.values.items l.number l.x
