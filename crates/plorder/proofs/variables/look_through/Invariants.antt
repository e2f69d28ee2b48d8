use Rattle.std.proofs.Common.{◌≡◌}
use Rattle.plorder.specs.Spans.{AreSpans, all_ground, weigh_spans}
use Rattle.plorder.proofs.variables.look_through.Given as goal

abbrev pub invariant-spans : goal.invariant-spans
invariant-spans l = record {
  inside : AreSpans l.heap l.work.items;
  same : all_ground l.heap l.work.items ≡ all_ground l.heap l.initial.work.items;
}

abbrev pub decreases-spans : goal.decreases-spans
decreases-spans l = weigh_spans l.heap l.work.items
