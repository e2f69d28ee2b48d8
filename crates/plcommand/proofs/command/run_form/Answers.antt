use Rattle.plcommand.specs.Words.{runs}
use Rattle.plcommand.proofs.command.run_form.Goals as goal

pub returns-in-None-clause-means : goal.returns-in-None-clause-means
returns-in-None-clause-means c = rw c.in-None.is (runs tt)
