use Rattle.std.proofs.Common.{ap₂}
use Rattle.plsearch.specs.Types.{Throw}
use Rattle.plstack.specs.State.{goals_of}
use Rattle.plmachine.proofs.Askable.{named-by}
use Rattle.plmachine.proofs.Moves.{raises, stays_put, on_err}
use Rattle.plmachine.proofs.machine.Machine.raise.Goals as goal

pub returns-in_err-ball-clause-err : goal.returns-in_err-ball-clause-err
returns-in_err-ball-clause-err c P = on_err _ (stays_put P c.args.self.now)

pub returns-in_err-levels-clause-err : goal.returns-in_err-levels-clause-err
returns-in_err-levels-clause-err c P = on_err _ (stays_put P c.args.self.now)

pub returns-clause-ok : goal.returns-clause-ok
returns-clause-ok c P =
    let s = c.args.self.now in
    raises P s c.give.new.self c.args.error c.args.p.now (goals_of s.stack c.args.rest) _ (ap₂ Throw c.in_ok-ball.ensures c.in_ok-levels.ensures.is)
    (named-by s.stack c.args.rest c.in_ok-levels.levels.items c.in_ok-levels.ensures.named c.requires.fits) c.give.ensures
