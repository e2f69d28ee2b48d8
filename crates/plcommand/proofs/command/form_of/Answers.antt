use Rattle.plcommand.specs.Words.{checks, lists}
use Rattle.plcommand.proofs.command.form_of.Goals as goal

pub returns-in-Check-clause-means : goal.returns-in-Check-clause-means
returns-in-Check-clause-means c = rw c.in-Check.is checks

pub returns-in-List-clause-means : goal.returns-in-List-clause-means
returns-in-List-clause-means c = rw c.in-List.is lists
