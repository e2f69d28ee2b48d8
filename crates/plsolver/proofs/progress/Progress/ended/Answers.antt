use Rattle.plsolver.proofs.Waiting.{says-ended}
use Rattle.plsolver.proofs.progress.Progress.ended.Goals as goal

pub returns-clause-says : goal.returns-clause-says
returns-clause-says c P over = says-ended P c.args.self.now c.in_ok-end.end c.in-Back.outcome c.requires.within c.in-Back.is over.2 c.in_ok-end.ensures
