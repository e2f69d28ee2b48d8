use Rattle.plsolver.proofs.Seeking.{sweep-reach}
use Rattle.plsolver.proofs.progress.Progress.find_query.Goals as goal

pub like-requires-in-Seek-clause-asks : goal.like-requires-in-Seek-clause-asks
like-requires-in-Seek-clause-asks c = sweep-reach c.args.self.now.machine.layer.own.updates c.args.self.now.machine.stack.env.heap c.args.find.now c.in-Sweep.head c.in-Sweep.sweep c.in-Seek.reach c.in-Sweep.is c.in-Seek.is c.requires.asks
