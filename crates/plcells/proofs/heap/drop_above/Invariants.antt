use Rattle.std.proofs.Common.{◌≡◌}
use Rattle.plcells.proofs.heap.drop_above.Given as goal

abbrev pub invariant-loop-n : goal.invariant-loop-n
invariant-loop-n l = l.closed.items ≡ l.initial.closed.items
