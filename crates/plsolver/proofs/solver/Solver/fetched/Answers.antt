use Rattle.plmachine.proofs.Moves.{on_ok_map}
use Rattle.plsolver.proofs.Keeping.{rest-goes}
use Rattle.plsolver.proofs.solver.Solver.fetched.Goals as goal

pub returns-clause-ok : goal.returns-clause-ok
returns-clause-ok c P b =
    rw (← c.self.view_is) (on_ok_map c.fetched.result
    (λ f v ordered g q asks told. rest-goes P v c.self.inside.progress c.fetched.new.self (rw (← c.self.view_is) at c.requires.within) (f v ordered g q asks told))
    (c.fetched.ensures.ok P (rw (← c.self.view_is) at b)))
