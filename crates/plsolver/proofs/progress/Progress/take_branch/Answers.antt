use Rattle.plsolver.proofs.Quiets.{db_in, quiet-retry}
use Rattle.plsolver.proofs.Ending.{ends_same}
use Rattle.plsolver.proofs.progress.Progress.take_branch.Goals as goal

pub returns-clause-quiet : goal.returns-clause-quiet
returns-clause-quiet c = λ P v ordered.
    let s = c.args.self.now in
    quiet-retry P v s c.take_branch.new.self c.requires.fails c.take_branch.ensures.basis (c.take_branch.ensures.retries (db_in P v s.machine))

pub returns-clause-walks : goal.returns-clause-walks
returns-clause-walks c = ends_same _ _ c.take_branch.ensures.walks
