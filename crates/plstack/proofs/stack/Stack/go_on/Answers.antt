use Rattle.std.proofs.Common.{None, reverse, ap, ◌∙◌}
use Rattle.plstack.proofs.Going.{goes_settled}
use Rattle.plstack.specs.Places.{walks_of}
use Rattle.plstack.proofs.stack.Stack.go_on.Goals as goal

pub returns-in-None-clause-goes : goal.returns-in-None-clause-goes
returns-in-None-clause-goes c = λ db.
    rw c.in-None.is (goes_settled db c.args.self.now c.empty_call.new.self c.settle.new.self c.args.at.point c.args.at.call None (c.empty_call.ensures.goes db) c.settle.ensures)

pub returns-in-None-clause-walks : goal.returns-in-None-clause-walks
returns-in-None-clause-walks c = ap (λ fs. walks_of (reverse fs)) c.settle.ensures.frames ∙ c.empty_call.ensures.walks

pub replace_call-requires : goal.replace_call-requires
replace_call-requires c = (c.args.at.point, c.args.at.call, c.requires)

pub returns-in-Some-clause-goes : goal.returns-in-Some-clause-goes
returns-in-Some-clause-goes c = λ db. rw c.in-Some.is (c.replace_call.ensures.goes c.args.at.point c.args.at.call c.requires db)
