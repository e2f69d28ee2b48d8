use Rattle.std.proofs.Common.{ap, ap₂, ◌∙◌, [], ◌∷◌}
use Rattle.plsearch.specs.Types.{Choice, Throw}
use Rattle.plerror.specs.Errors.{error_term}
use Rattle.plterm.specs.Variables.{copied}
use Rattle.plstack.specs.Opening.{around_cases}
use Rattle.plmachine.proofs.Raising.{named-in, raises-in}
use Rattle.plmachine.proofs.machine.Machine.raise_in.Goals as goal

pub returns-clause-ok : goal.returns-clause-ok
returns-clause-ok c P =
    let s = c.args.self.now in
    raises-in P s c.give.new.self c.open_run.new.self _ c.args.how.list _ _
    (ap₂ Throw (c.in_ok-ball.ensures ∙ ap (λ p. copied 0 (error_term c.args.error p)) c.in_ok-p.ensures) c.in_ok-levels.ensures.is) c.in_ok-open_run.ensures.ok
    (named-in s.stack c.open_run.new.self (Choice [] ∷ around_cases s.stack c.args.how.around) c.args.how.list c.args.how.level c.in_ok-levels.levels.items c.in_ok-levels.ensures.named c.in_ok-open_run.ensures.ok c.requires.level) c.give.ensures
