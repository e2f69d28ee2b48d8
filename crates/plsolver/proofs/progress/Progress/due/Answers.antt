use Rattle.std.proofs.Common.{arith, refl}
use Rattle.plsolver.specs.Solver.{Settled}
use Rattle.plsolver.proofs.Quiets.{quiet-spent}
use Rattle.plsolver.proofs.progress.Progress.due.Goals as goal

pub returns-then-self-clause-on : goal.returns-then-self-clause-on
returns-then-self-clause-on c = λ P v ordered. rw c.spend.ensures (quiet-spent P v c.args.self.now c.args.selected c.requires.first c.if-self.true)

pub returns-then-self-clause-frame : goal.returns-then-self-clause-frame
returns-then-self-clause-frame c = rw c.spend.ensures refl

pub returns-clause-due : goal.returns-clause-due
unfolding Settled
returns-clause-due c = ((λ P. (c.requires.first, omega (arith, c.requires.within, c.if-self.false))), refl)
