use Rattle.std.proofs.Common.{◌≡◌, ◌+◌, ◌-◌, ◌≤◌, ◌++◌}
use Rattle.plcells.specs.Walking.{run}
use Rattle.plcells.proofs.take.push_run.Given as goal

abbrev pub invariant-loop-i : goal.invariant-loop-i
invariant-loop-i l = record {
  most : l.i ≤ l.count;
  so_far : l.stack.items ≡ l.initial.stack.items ++ run (l.first + l.i) (l.count - l.i);
}

abbrev pub decreases-loop-i : goal.decreases-loop-i
decreases-loop-i l = l.i
