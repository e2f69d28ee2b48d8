use Rattle.std.proofs.Common.{◌≡◌, ◌+◌, ◌-◌, ◌≤◌, ◌++◌}
use Rattle.plbind.specs.Unifying.{pairs}
use Rattle.plbind.proofs.unify.push_pairs.Given as goal

abbrev pub invariant-loop-i : goal.invariant-loop-i
invariant-loop-i l = record {
  most : l.i ≤ l.k;
  so_far : l.work.items ≡ l.initial.work.items ++ pairs (l.a + l.i) (l.b + l.i) (l.k - l.i);
}

abbrev pub decreases-loop-i : goal.decreases-loop-i
decreases-loop-i l = l.i
