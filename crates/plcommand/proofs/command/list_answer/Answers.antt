use Rattle.std.proofs.Common.{refl}
use Rattle.plcommand.specs.Outcome.{listed}
use Rattle.plcommand.proofs.command.list_answer.Goals as goal

pub returns-clause-says : goal.returns-clause-says
returns-clause-says c = record { output = c.in_ok-lines.lines.items; makes = listed c.in_ok-lines.ensures.accepted; is = refl }
