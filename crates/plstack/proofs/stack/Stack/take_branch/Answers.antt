use Rattle.std.proofs.Common.{reverse, ap, ◌∙◌}
use Rattle.plstack.proofs.Returning.{retries_settled}
use Rattle.plstack.specs.Places.{walks_of}
use Rattle.plstack.proofs.stack.Stack.take_branch.Goals as goal

pub returns-clause-retries : goal.returns-clause-retries
returns-clause-retries c = λ db. retries_settled db c.args.self.now c.come_back-marks.new.self c.settle.new.self (c.come_back-marks.ensures.retries db) c.settle.ensures

pub returns-clause-walks : goal.returns-clause-walks
returns-clause-walks c = ap (λ fs. walks_of (reverse fs)) c.settle.ensures.frames ∙ c.come_back-marks.ensures.walks
