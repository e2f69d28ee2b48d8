use Rattle.plsolver.proofs.Apart.{view-apart}
use Rattle.plsolver.proofs.progress.Progress.own.Goals as goal

pub returns-clause-apart : goal.returns-clause-apart
returns-clause-apart c = λ g shown. view-apart c.args.self.now.machine g c.requires c.own.ensures.apart c.own.ensures.closed shown
