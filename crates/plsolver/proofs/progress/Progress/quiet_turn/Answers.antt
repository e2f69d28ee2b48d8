use Rattle.std.specs.Prelude.{IfSome}
use Rattle.std.proofs.Common.{rules, sym, subst}
use Rattle.plsolver.specs.Solver.{Keeps, Settled}
use Rattle.plsolver.proofs.Keeping.{stays_keeps}
use Rattle.plsolver.proofs.Waiting.{pause-due}
use Rattle.plsolver.proofs.progress.Progress.quiet_turn.Goals as goal

pub returns-in_ok-wait-in-Ask-clause-due : goal.returns-in_ok-wait-in-Ask-clause-due
returns-in_ok-wait-in-Ask-clause-due c =
    let P = c.args.program.now in
    let s = c.args.self.now in
    let t = c.wait.new.self in
    subst (λ o. IfSome o (λ due. Settled P t due × Keeps P s t)) (sym c.paused.ensures)
    (pause-due P t c.in_ok-wait-in-Ask.field-0 (stays_keeps P s t c.requires.of) (c.in_ok-wait-in-Ask.ensures.due P c.requires.of))

pub returns-in_ok-back-in-Back-clause-due : goal.returns-in_ok-back-in-Back-clause-due
returns-in_ok-back-in-Back-clause-due c =
    let P = c.args.program.now in
    let s = c.args.self.now in
    let t = c.back.new.self in
    subst (λ o. IfSome o (λ due. Settled P t due × Keeps P s t)) (sym c.paused-in-Back.ensures)
    (pause-due P t c.in_ok-back-in-Back.field-0 (λ keeps. keeps) c.in_ok-back-in-Back.ensures.due)

pub returns-in_err-wait-in-Ask-clause-err : goal.returns-in_err-wait-in-Ask-clause-err
returns-in_err-wait-in-Ask-clause-err c = let err = stays_keeps c.args.program.now c.args.self.now c.wait.new.self c.requires.of (c.in_err-wait-in-Ask.ensures.err c.args.program.now c.requires.of) in search rules
