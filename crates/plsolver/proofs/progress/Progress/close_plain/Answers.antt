use Rattle.plsolver.proofs.Quiets.{quiet-plain}
use Rattle.plsolver.proofs.Ending.{ends_same}
use Rattle.plsolver.proofs.progress.Progress.close_plain.Goals as goal

pub returns-clause-quiet : goal.returns-clause-quiet
returns-clause-quiet c = λ P v ordered. quiet-plain P v c.args.self.now c.close_plain.new.self c.requires.back c.close_plain.ensures.basis c.close_plain.ensures.closes

pub returns-clause-walks : goal.returns-clause-walks
returns-clause-walks c = ends_same _ _ c.close_plain.ensures.walks
