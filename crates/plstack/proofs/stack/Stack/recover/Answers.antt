use Rattle.std.proofs.Common.{reverse, ap, ◌∙◌}
use Rattle.plstack.specs.Places.{walks_of}
use Rattle.plstack.proofs.stack.Stack.recover.Goals as goal

pub returns-clause-walks : goal.returns-clause-walks
returns-clause-walks c = ap (λ fs. walks_of (reverse fs)) c.settle.ensures.frames ∙ c.leave_handler-marks.ensures.walks
