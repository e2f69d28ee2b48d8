use Rattle.plcells.proofs.Putting.{Preserves-refl, adds-none}
use Rattle.plgoals.proofs.goal.put_goal.Goals as goal

pub returns-in_err-goal_nodes-clause-preserves : goal.returns-in_err-goal_nodes-clause-preserves
returns-in_err-goal_nodes-clause-preserves c = Preserves-refl c.args.heap.now

pub returns-in-None-clause-adds : goal.returns-in-None-clause-adds
returns-in-None-clause-adds c = adds-none c.args.heap.now

pub returns-in-None-clause-preserves : goal.returns-in-None-clause-preserves
returns-in-None-clause-preserves c = Preserves-refl c.args.heap.now
