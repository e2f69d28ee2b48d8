use Rattle.std.proofs.Common.{◌+◌, ◌-◌, ◌≤◌}
use Rattle.plhead.specs.Equations.{Pushes}
use Rattle.plhead.proofs.work.push_arguments.Given as goal

abbrev pub invariant-loop-i : goal.invariant-loop-i
invariant-loop-i l = record {
  most : l.i ≤ l.count;
  so_far : Pushes l.heap l.initial.work.items l.work.items (l.at + l.i) (l.cells + l.i) (l.count - l.i);
}

abbrev pub decreases-loop-i : goal.decreases-loop-i
decreases-loop-i l = l.i
