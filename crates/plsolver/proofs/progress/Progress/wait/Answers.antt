use Rattle.std.proofs.Common.{ap, ◌∙◌, inl, inr, sym}
use Rattle.plevent.specs.declared.request.Request.TheVariants.{EraseOne}
use Rattle.plmachine.specs.declared.machine.Mode.TheVariants as modes
use Rattle.plsolver.specs.Solver.{PausesAt}
use Rattle.plsolver.proofs.Runs.{stays-same}
use Rattle.plsolver.proofs.Waiting.{waits-may}
use Rattle.plsolver.proofs.progress.Progress.wait.Goals as goal

pub returns-in-Look-clause-due : goal.returns-in-Look-clause-due
unfolding PausesAt
returns-in-Look-clause-due c P b = (inl (c.in-Look.field-0, c.in-Ask.is ∙ ap modes.Ask c.in-Look.is), stays-same P c.args.self.now)

pub returns-in-Begin-clause-due : goal.returns-in-Begin-clause-due
unfolding PausesAt
returns-in-Begin-clause-due c P b = (inr (c.in-Begin.field-0, c.in-Begin.field-1, c.in-Ask.is ∙ ap modes.Ask c.in-Begin.is), stays-same P c.args.self.now)

pub returns-in-Await-clause-due : goal.returns-in-Await-clause-due
unfolding PausesAt
returns-in-Await-clause-due c P b =
    (waits-may c.args.self.now c.in-Await.field-0 c.in-Await.field-1 (c.in-Ask.is ∙ ap modes.Ask c.in-Await.is) b.sound.askable, stays-same P c.args.self.now)

pub returns-then-not-is_open-clause-due : goal.returns-then-not-is_open-clause-due
unfolding PausesAt
returns-then-not-is_open-clause-due c P b =
    ((EraseOne c.in-Erase.name, (c.in-Ask.is ∙ ap modes.Ask c.in-Erase.is, sym c.is_open.ensures ∙ c.if-not-is_open.true)), stays-same P c.args.self.now)

pub erase-requires-clause-erases : goal.erase-requires-clause-erases
erase-requires-clause-erases c = (c.in-Ask.is ∙ ap modes.Ask c.in-Erase.is, sym c.is_open.ensures ∙ c.if-not-is_open.false)
