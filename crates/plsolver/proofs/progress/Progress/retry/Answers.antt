use Rattle.std.proofs.Common.{[]}
use Rattle.plstack.specs.StaticCalls.{database_of}
use Rattle.plstack.proofs.Program.{code-statics}
use Rattle.plmachine.proofs.Moves.{on_err}
use Rattle.plmachine.specs.Machine.{IsBegun}
use Rattle.plprogram.specs.Program.{Program}
use Rattle.plsolver.specs.Solver.{Stays}
use Rattle.plsolver.proofs.Quiets.{at_stack, db_in, quiet-retry, quiet-close, stays-back}
use Rattle.plsolver.proofs.Runs.{no_views}
use Rattle.plsolver.proofs.Ending.{ends_same}
use Rattle.plsolver.proofs.progress.Progress.retry.Goals as goal

pub retry-requires-clause-statics : goal.retry-requires-clause-statics
retry-requires-clause-statics c =
    let P = c.requires.begun.0 in
    (database_of P no_views [], code-statics P no_views [] c.args.self.now.machine.stack.basis.code c.requires.begun.1)

pub returns-in_err-retry-clause-err : goal.returns-in_err-retry-clause-err
returns-in_err-retry-clause-err c =
    let s = c.args.self.now in
    let stays : (P : Program) → IsBegun P s.machine → Stays P s (at_stack s c.retry.new.self) = λ P begun. stays-back P s c.retry.new.self _ c.requires.fails c.retry.ensures.basis c.retry.ensures.walks c.in_err-retry.ensures.err in
    on_err _ stays

pub returns-then-branch-clause-ok : goal.returns-then-branch-clause-ok
returns-then-branch-clause-ok c = λ P begun v ordered.
    let s = c.args.self.now in
    quiet-retry P v s c.retry.new.self c.requires.fails c.retry.ensures.basis (c.in_ok-retry.ensures.yes c.if-branch.true (db_in P v s.machine) (code-statics P v s.machine.layer.own.updates s.machine.stack.basis.code begun))

pub returns-else-branch-clause-ok : goal.returns-else-branch-clause-ok
returns-else-branch-clause-ok c = λ P begun v ordered.
    let s = c.args.self.now in
    quiet-close P v s c.retry.new.self c.requires.fails c.retry.ensures.basis (c.in_ok-retry.ensures.no c.if-branch.false (db_in P v s.machine) (code-statics P v s.machine.layer.own.updates s.machine.stack.basis.code begun))

pub returns-in_err-retry-clause-walks : goal.returns-in_err-retry-clause-walks
returns-in_err-retry-clause-walks c = ends_same _ _ c.retry.ensures.walks

pub returns-then-branch-clause-walks : goal.returns-then-branch-clause-walks
returns-then-branch-clause-walks c = ends_same _ _ c.retry.ensures.walks

pub returns-else-branch-clause-walks : goal.returns-else-branch-clause-walks
returns-else-branch-clause-walks c = ends_same _ _ c.retry.ensures.walks
