use Rattle.std.proofs.Common.{refl}
use Rattle.plstack.specs.StaticCalls.{database_of}
use Rattle.plsolver.specs.Solver.{PausesAt}
use Rattle.plsolver.proofs.Closing.{quiet-closes}
use Rattle.plsolver.proofs.Quiets.{over-now}
use Rattle.plsolver.proofs.progress.Progress.close.Goals as goal

pub returns-in-Some-clause-on : goal.returns-in-Some-clause-on
returns-in-Some-clause-on c = λ P v ordered.
    let r = c.requires in
    quiet-closes P v c.args.self.now c.close.new.self r.back r.undone r.tried r.walked r.caught r.gathered c.in-Some.field-0 (rw c.in-Some.is at c.close.ensures.some) (rw c.in-Some.is at c.close.ensures.basis)

pub returns-in-None-clause-due : goal.returns-in-None-clause-due
unfolding PausesAt
returns-in-None-clause-due c =
    let s = c.args.self.now in
    rw (rw c.in-None.is at c.close.ensures.same) ((λ P. over-now P s c.requires.back (λ v. (rw c.in-None.is at c.close.ensures.none) (database_of P v s.machine.layer.own.updates))), refl)
