use Rattle.std.proofs.Common.{subst, sym}
use Rattle.plstack.specs.State.{EndsWalks}
use Rattle.plsolver.proofs.Quiets.{quiet-stop}
use Rattle.plsolver.proofs.Closing.{if_closes}
use Rattle.plsolver.proofs.Runs.{visits-tied}
use Rattle.plsolver.proofs.Ending.{ends_refl}
use Rattle.plsolver.proofs.progress.Progress.pass.Goals as goal

pub returns-in-Marker-clause-on : goal.returns-in-Marker-clause-on
returns-in-Marker-clause-on c P b = c.in_ok-pass_marker-in-Marker.ensures.ok P

pub returns-clause-on : goal.returns-clause-on
returns-clause-on c P b = if_closes _ c.due.result c.due.ensures.on P

pub returns-in-Nothing-clause-on : goal.returns-in-Nothing-clause-on
returns-in-Nothing-clause-on c = λ P b v ordered. rw c.succeed.ensures (quiet-stop P v c.args.self.now c.requires.visits c.in-Nothing.ensures)

pub returns-in-Nothing-clause-walks : goal.returns-in-Nothing-clause-walks
returns-in-Nothing-clause-walks c = subst (λ x. EndsWalks c.args.self.now.machine.stack x.machine.stack) (sym c.succeed.ensures) (ends_refl _)

pub pass_marker-requires-clause-tied : goal.pass_marker-requires-clause-tied
pass_marker-requires-clause-tied c = visits-tied c.requires.of.0 c.args.self.now.machine c.requires.visits c.requires.of.1

pub returns-clause-walks : goal.returns-clause-walks
returns-clause-walks c = subst (λ x. EndsWalks c.args.self.now.machine.stack x.machine.stack) (sym c.due.ensures.frame) (ends_refl _)
