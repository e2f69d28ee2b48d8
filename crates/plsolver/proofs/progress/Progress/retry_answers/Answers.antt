use Rattle.plsolver.proofs.Runs.{err_stays}
use Rattle.plsolver.proofs.Quiets.{db_in, quiet-retry, quiet-close, stays-back}
use Rattle.plsolver.proofs.Ending.{ends_same}
use Rattle.plsolver.proofs.progress.Progress.retry_answers.Goals as goal

pub returns-in_err-retry_answers-clause-err : goal.returns-in_err-retry_answers-clause-err
returns-in_err-retry_answers-clause-err c =
    err_stays c.args.self.now _ _ (λ P. stays-back P c.args.self.now c.retry_answers.new.self _ c.requires.fails c.retry_answers.ensures.basis c.retry_answers.ensures.walks c.in_err-retry_answers.ensures.err)

pub returns-then-branch-clause-ok : goal.returns-then-branch-clause-ok
returns-then-branch-clause-ok c = λ P v ordered.
    let s = c.args.self.now in
    quiet-retry P v s c.retry_answers.new.self c.requires.fails c.retry_answers.ensures.basis (c.in_ok-retry_answers.ensures.yes c.if-branch.true (db_in P v s.machine))

pub returns-else-branch-clause-ok : goal.returns-else-branch-clause-ok
returns-else-branch-clause-ok c = λ P v ordered.
    let s = c.args.self.now in
    quiet-close P v s c.retry_answers.new.self c.requires.fails c.retry_answers.ensures.basis (c.in_ok-retry_answers.ensures.no c.if-branch.false (db_in P v s.machine))

pub returns-in_err-retry_answers-clause-walks : goal.returns-in_err-retry_answers-clause-walks
returns-in_err-retry_answers-clause-walks c = ends_same _ _ c.retry_answers.ensures.walks

pub returns-then-branch-clause-walks : goal.returns-then-branch-clause-walks
returns-then-branch-clause-walks c = ends_same _ _ c.retry_answers.ensures.walks

pub returns-else-branch-clause-walks : goal.returns-else-branch-clause-walks
returns-else-branch-clause-walks c = ends_same _ _ c.retry_answers.ensures.walks
