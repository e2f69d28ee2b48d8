use Rattle.plsolver.proofs.solver.Solver.view.Goals as goal

pub returns : goal.returns
returns c = rw (c.new.ensures, ← c.self.view_is) c.view.ensures
