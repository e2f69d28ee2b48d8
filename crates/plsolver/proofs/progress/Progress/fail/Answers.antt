use Rattle.plmachine.proofs.Moves.{on_err}
use Rattle.plsolver.proofs.Keeping.{stays_keeps}
use Rattle.plsolver.proofs.Closing.{if_closes}
use Rattle.plsolver.proofs.progress.Progress.fail.Goals as goal

pub returns-then-is_choice-clause-on : goal.returns-then-is_choice-clause-on
returns-then-is_choice-clause-on c = c.in_ok-try_next.ensures.ok c.args.program.now c.requires.of.begun

pub returns-in_err-gather-clause-err : goal.returns-in_err-gather-clause-err
returns-in_err-gather-clause-err c = on_err _ (stays_keeps c.args.program.now c.args.self.now c.gather.new.self c.requires.of (c.in_err-gather.ensures.err c.args.program.now))

pub returns-then-is_gatherer-clause-on : goal.returns-then-is_gatherer-clause-on
returns-then-is_gatherer-clause-on c = c.in_ok-gather.ensures.ok c.args.program.now

pub returns-clause-on : goal.returns-clause-on
returns-clause-on c = if_closes _ c.close.result c.close.ensures.on c.args.program.now
