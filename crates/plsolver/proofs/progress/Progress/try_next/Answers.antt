use Rattle.plmachine.proofs.Moves.{on_err_map, on_ok_map}
use Rattle.plsolver.proofs.progress.Progress.try_next.Goals as goal

pub returns-then-is_branch-clause-ok : goal.returns-then-is_branch-clause-ok
returns-then-is_branch-clause-ok c = λ P begun. c.take_branch.ensures.quiet P

pub returns-clause-ok : goal.returns-clause-ok
returns-clause-ok c = on_ok_map c.retry_answers.result (λ f P begun. f P) c.retry_answers.ensures.ok

pub returns-clause-err : goal.returns-clause-err
returns-clause-err c = on_err_map c.retry_answers.result (λ f P begun. f P) c.retry_answers.ensures.err
