use Rattle.std.proofs.Common.{◌≡◌, ◌-◌, true, [], sym, subst}
use Rattle.plstack.specs.StaticCalls.{database_of}
use Rattle.plstack.proofs.Stacks.{depth-in}
use Rattle.plsolver.specs.Solver.{throws_to}
use Rattle.plsolver.proofs.Quiets.{both_are, none_are}
use Rattle.plmachine.proofs.Moves.{on_err}
use Rattle.plsolver.proofs.Closing.{if_closes}
use Rattle.plsolver.proofs.Keeping.{stays_keeps}
use Rattle.plsolver.proofs.Runs.{no_views}
use Rattle.plsolver.proofs.progress.Progress.back.Goals as goal

pub returns-then-is_plain-clause-on : goal.returns-then-is_plain-clause-on
returns-then-is_plain-clause-on c = c.close_plain.ensures.quiet c.args.program.now

pub returns-then-is_undo-clause-on : goal.returns-then-is_undo-clause-on
returns-then-is_undo-clause-on c = c.undo.ensures.quiet c.args.program.now

pub returns-in_err-catch-clause-err : goal.returns-in_err-catch-clause-err
returns-in_err-catch-clause-err c = on_err _ (stays_keeps c.args.program.now c.args.self.now c.catch.new.self c.requires.of (c.in_err-catch.ensures.err c.args.program.now))

pub returns-then-catches-clause-on : goal.returns-then-catches-clause-on
returns-then-catches-clause-on c = c.in_ok-catch.ensures.ok c.args.program.now

pub returns-clause-on : goal.returns-clause-on
returns-clause-on c = if_closes _ c.close.result c.close.ensures.on c.args.program.now

pub catch-requires-clause-catch : goal.catch-requires-clause-catch
catch-requires-clause-catch c = (both_are c.catches.result (c.catches.ensures (database_of c.args.program.now no_views [])) c.if-catches.true).0

pub catch-requires-clause-throws : goal.catch-requires-clause-throws
catch-requires-clause-throws c =
    let s = c.args.self.now.machine in
    let db = database_of c.args.program.now no_views [] in
    subst (λ d. throws_to (d - 1) s.mode ≡ true) (depth-in db s.stack) (both_are c.catches.result (c.catches.ensures db) c.if-catches.true).1

pub close-requires-clause-caught : goal.close-requires-clause-caught
close-requires-clause-caught c = λ has throws.
    let s = c.args.self.now.machine in
    let db = database_of c.args.program.now no_views [] in
    absurd (none_are c.catches.result (c.catches.ensures db) c.if-catches.false (has, subst (λ d. throws_to (d - 1) s.mode ≡ true) (sym (depth-in db s.stack)) throws))
