use Rattle.std.proofs.Common.{◌∙◌, sym, subst}
use Rattle.plsearch.specs.Starts.{searches}
use Rattle.plhist.specs.Runs.{AllFollow}
use Rattle.plrun.proofs.schedule.run_schedule.Goals as goal

pub returns-clause-follow : goal.returns-clause-follow
returns-clause-follow c =
    let P = c.args.program.now in
    let n = c.args.steps in
    subst (λ runs. AllFollow (searches P n c.new.result) n c.new.result runs) (sym c.new-2.ensures)
    (subst (λ h. AllFollow (searches P n h) n h c.in_ok-runs.runs.items) (sym (c.new.ensures ∙ c.close.ensures)) c.in_ok-runs.ensures.follow)
