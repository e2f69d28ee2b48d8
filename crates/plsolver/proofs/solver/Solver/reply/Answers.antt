use Rattle.plsolver.proofs.solver.Solver.reply.Goals as goal

pub returns-clause-ok : goal.returns-clause-ok
returns-clause-ok c P b = rw (← c.self.view_is) (c.reply.ensures.ok P (rw (← c.self.view_is) at b))
