use Rattle.std.proofs.Common.{◌≡◌, ◌≤◌, drop, length}
use Rattle.plsolver.specs.Solver.{Starts}
use Rattle.plsolver.proofs.start.start_goals.Given as goal

abbrev pub invariant-loop-i : goal.invariant-loop-i
invariant-loop-i l = record {
  few : l.i ≤ length l.goals;
  starts : Starts l.stack l.list (drop l.i l.goals);
  basis : l.stack.basis ≡ l.fn.stack.basis;
  frames : l.stack.frames ≡ l.fn.stack.frames;
}

abbrev pub decreases-loop-i : goal.decreases-loop-i
decreases-loop-i l = l.i
