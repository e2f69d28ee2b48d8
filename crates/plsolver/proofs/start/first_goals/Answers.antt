use Rattle.plstack.proofs.Growing.{if_ok}
use Rattle.plsolver.proofs.Starts.{none-there, starts-one}
use Rattle.plsolver.proofs.start.first_goals.Goals as goal

pub start_goal-requires : goal.start_goal-requires
start_goal-requires c = none-there c.args.stack.now c.alone-none.result c.requires c.alone-none.ensures

pub returns-in-Some-clause-starts : goal.returns-in-Some-clause-starts
returns-in-Some-clause-starts c =
    rw c.in-Some.is (if_ok _ _ c.start_goal.result (λ made one. starts-one c.args.stack.now c.start_goal.new.stack c.alone-none.result made _ c.requires c.alone-none.ensures one) c.start_goal.ensures.starts)
