use Rattle.std.proofs.Common.{◌≡◌}
use Rattle.plstack.specs.Frames.{IsSpotSeen}
use Rattle.plstack.specs.Walks.{AtWalk}
use Rattle.plmachine.specs.declared.machine.Outcome.TheVariants as outcomes
use Rattle.plmachine.specs.declared.machine.Mode.TheVariants as modes
use Rattle.plmachine.specs.Machine.{IsTied}
use Rattle.plsolver.specs.Asking.{Further}
use Rattle.plsolver.specs.Going.{goes_left, head_at, IsInView, SameCases}
use Rattle.plsolver.proofs.progress.Progress.walk_through.Given as goal

abbrev pub invariant-walk : goal.invariant-walk
invariant-walk l = record {
  fails : l.self.machine.mode ≡ modes.Back outcomes.Fail;
  at : AtWalk l.self.machine.stack l.at.point l.at.walk;
  seen : IsSpotSeen l.self.machine.stack.basis.latest l.at.walk.spot;
  viewed : IsInView l.at.walk.spot;
  tied : IsTied l.self.machine;
  same : SameCases l.fn.self.machine l.self.machine;
  basis : l.self.machine.stack.basis ≡ l.fn.self.machine.stack.basis;
  frame : l.self ≡ record l.fn.self { machine = record l.fn.self.machine { stack = l.self.machine.stack } };
  walks : Further l.fn.self.machine.stack l.self.machine.stack;
}

abbrev pub decreases-walk : goal.decreases-walk
decreases-walk l = goes_left l.self.machine.layer.own.updates (head_at l.self.machine l.at.walk) l.at.walk.spot
