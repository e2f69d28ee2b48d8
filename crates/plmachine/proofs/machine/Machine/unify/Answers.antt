use Rattle.std.proofs.Common.{ap, ◌∙◌}
use Rattle.plmachine.specs.declared.machine.Mode.TheVariants as modes
use Rattle.plmachine.specs.declared.machine.Outcome.TheVariants as outcomes
use Rattle.plmachine.proofs.Offers.{unifies, ununified}
use Rattle.plstack.proofs.Fitted.{fits-unified}
use Rattle.plmachine.proofs.machine.Machine.unify.Goals as goal

pub returns-then-branch-clause-ok : goal.returns-then-branch-clause-ok
returns-then-branch-clause-ok c P =
    unifies P c.args.self.now c.go_on.new.self c.unify.new.self _ _ c.args.rest c.requires.rest (c.in_ok-unify.ensures.yes c.if-branch.true) c.go_on.ensures.is

pub returns-clause-ok : goal.returns-clause-ok
returns-clause-ok c P =
    let no = c.in_ok-unify.ensures.no c.if-branch.false in
    ununified P c.args.self.now c.give.new.self _ _ c.args.rest no.0 (c.give.ensures ∙ ap (λ st. record c.args.self.now { stack = st; mode = modes.Back outcomes.Fail }) no.1)

pub go_on-requires-clause-fits : goal.go_on-requires-clause-fits
go_on-requires-clause-fits c = fits-unified c.args.self.now.stack c.unify.new.self _ _ (c.in_ok-unify.ensures.yes c.if-branch.true) c.args.rest c.requires.rest c.requires.fits
