use Rattle.plsolver.proofs.solver.Solver.advance.Goals as goal

pub returns-clause-advances : goal.returns-clause-advances
returns-clause-advances c = rw (← c.self.view_is) c.advance.ensures.advances

pub returns-clause-walks : goal.returns-clause-walks
returns-clause-walks c = rw (← c.self.view_is) c.advance.ensures.walks
