use Rattle.std.proofs.Common.{◌-◌, ◌≤◌, length}
use Rattle.plstack.proofs.stack.Stack.oldest_from.Given as goal

abbrev pub invariant-loop-i : goal.invariant-loop-i
invariant-loop-i l = record {
  from : l.fn.at ≤ l.i;
  there : l.i ≤ length l.self.frames;
}

abbrev pub decreases-loop-i : goal.decreases-loop-i
decreases-loop-i l = length l.self.frames - l.i
