use Rattle.std.proofs.Common.{◌≡◌}
use Rattle.plorder.specs.Runs.{AreSpanPairs, runs_order}
use Rattle.plorder.proofs.compare.settle.Given as goal
use Rattle.plorder.proofs.Settling.{weigh_runs}

abbrev pub invariant-runs : goal.invariant-runs
invariant-runs l = record {
  inside : AreSpanPairs l.heap l.work.items;
  same : runs_order l.heap l.work.items ≡ runs_order l.heap l.initial.work.items;
}

abbrev pub decreases-runs : goal.decreases-runs
decreases-runs l = weigh_runs l.heap l.work.items
