use Rattle.std.proofs.Common.{ap, ap₂, ◌∙◌, refl}
use Rattle.plterm.specs.Variables.{copied}
use Rattle.plsearch.specs.Types.{Throw}
use Rattle.plerror.specs.Errors.{error_term}
use Rattle.plsolver.proofs.Catches.{closed-basis, closed-below, closed-named, rethrows}
use Rattle.plsolver.proofs.Quiets.{db_in}
use Rattle.plsolver.proofs.progress.Progress.rethrow.Goals as goal

pub returns-clause-ok : goal.returns-clause-ok
returns-clause-ok c = λ P.
    let s = c.args.self.now in
    let st = s.machine.stack in
    let k = c.close.ensures in
    rethrows P s _ c.close.new.self c.args.error c.args.list _
    (ap₂ Throw (c.in_ok-ball.ensures ∙ ap (λ p. copied 0 (error_term c.args.error p)) c.in_ok-p.ensures) c.in_ok-levels.ensures.is)
    (closed-basis st c.close.new.self c.close.result k.some k.none k.basis c.requires.catch)
    (closed-named st c.close.new.self c.in_ok-levels.levels.items c.args.list c.close.result k.some k.none c.requires.catch c.in_ok-levels.ensures.named c.requires.fits)
    (λ v h below was. closed-below (db_in P v s.machine) st c.close.new.self h below c.close.result k.some k.none was)
    refl
