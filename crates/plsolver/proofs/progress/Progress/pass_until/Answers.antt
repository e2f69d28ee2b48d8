use Rattle.std.proofs.Common.{arith, inr, subst, sym, ◌∙◌}
use Rattle.std.proofs.lemmas.Bool.{eqb-false}
use Rattle.plstack.specs.State.{IsEmptyOrFit}
use Rattle.plsolver.proofs.Leaving.{quiet-left, until-fits}
use Rattle.plsolver.proofs.Quiets.{quiet-until}
use Rattle.plsolver.proofs.progress.Progress.pass_until.Goals as goal

pub visit-requires-clause-fits : goal.visit-requires-clause-fits
visit-requires-clause-fits c = inr (until-fits c.args.self.now.machine.stack c.args.level c.args.rest.now c.requires.marker)

pub returns-then-eq-clause-quiet : goal.returns-then-eq-clause-quiet
returns-then-eq-clause-quiet c = rw c.visit.ensures.is (λ P v ordered. quiet-until P v c.args.self.now c.args.level c.args.rest.now c.requires.visits c.requires.marker)

pub visit-requires-then-not-leave_catcher-clause-fits : goal.visit-requires-then-not-leave_catcher-clause-fits
visit-requires-then-not-leave_catcher-clause-fits c =
    let st = c.args.self.now.machine.stack in
    subst (λ st. IsEmptyOrFit st c.args.rest.now) (sym (c.leave_catcher.ensures.no c.if-not-leave_catcher.true)) (inr (until-fits st c.args.level c.args.rest.now c.requires.marker))

pub returns-then-not-leave_catcher-clause-quiet : goal.returns-then-not-leave_catcher-clause-quiet
returns-then-not-leave_catcher-clause-quiet c =
    rw (c.visit-then-not-leave_catcher.ensures.is, c.leave_catcher.ensures.no c.if-not-leave_catcher.true) (λ P v ordered. quiet-until P v c.args.self.now c.args.level c.args.rest.now c.requires.visits c.requires.marker)

pub returns-else-not-leave_catcher-clause-quiet : goal.returns-else-not-leave_catcher-clause-quiet
returns-else-not-leave_catcher-clause-quiet c = λ P v ordered.
    let inside = eqb-false c.args.level 0 (sym c.eq.ensures ∙ c.if-eq.false) in
    quiet-left P v c.args.self.now c.leave_catcher.new.self c.args.level c.args.rest.now c.requires.visits c.requires.marker (omega (arith, inside)) (c.leave_catcher.ensures.yes c.if-not-leave_catcher.false)
