use Rattle.std.proofs.Common.{None, refl, ◌∙◌}
use Rattle.plstack.proofs.Going.{place-framed}
use Rattle.plstack.proofs.Walking.{goes_settled}
use Rattle.plstack.proofs.Ending.{moves-between}
use Rattle.plstack.proofs.stack.Stack.end_walk.Goals as goal

pub returns-clause-goes : goal.returns-clause-goes
returns-clause-goes c = λ p w is db. goes_settled db c.args.self.now c.empty_walk.new.self c.settle.new.self p w None (c.empty_walk.ensures.goes p w is db) c.settle.ensures

pub returns-clause-moves : goal.returns-clause-moves
returns-clause-moves c = λ p w is. moves-between c.args.self.now c.args.self.now c.empty_walk.new.self c.settle.new.self w None refl c.settle.ensures.frames (c.empty_walk.ensures.moves p w is)

pub returns-clause-place : goal.returns-clause-place
returns-clause-place c = c.settle.ensures.place ∙ place-framed c.args.self.now c.empty_walk.new.self c.empty_walk.ensures.same
