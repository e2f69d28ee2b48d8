use Rattle.plhist.specs.Status.{refusal_text}
use Rattle.plcommand.specs.Outcome.{refused}
use Rattle.plcommand.proofs.command.refusal_answer.Goals as goal

pub returns : goal.returns
returns c = λ text form h. record { output = refusal_text c.args.line c.args.column c.args.kind; makes = refused h; is = c.refusal_text.ensures }
