use Rattle.plsolver.proofs.solver.Solver.refreshed.Goals as goal

pub returns-clause-ok : goal.returns-clause-ok
returns-clause-ok c P b = rw (← c.self.view_is) (c.refreshed.ensures.ok P (rw (← c.self.view_is) at b))
