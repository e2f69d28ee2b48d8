use Rattle.plcommand.specs.Outcome.{check_text, checked}
use Rattle.plcommand.proofs.command.check_answer.Goals as goal

pub returns-clause-says : goal.returns-clause-says
returns-clause-says c = record { output = check_text c.in_ok-program.program; makes = checked c.in_ok-program.ensures.accepted; is = c.counts_of.ensures }
