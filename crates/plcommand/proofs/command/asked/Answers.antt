use Rattle.plwords.specs.Forms.{texts}
use Rattle.plcommand.proofs.Asked.{cause}
use Rattle.plcommand.proofs.command.asked.Goals as goal

pub returns-in-Ok-clause-cause : goal.returns-in-Ok-clause-cause
returns-in-Ok-clause-cause c = cause c.args.words.now (texts c.in-Ok.command.form) c.in-Ok.command.path.now c.in-Ok.ensures.read c.form_of.result c.form_of.ensures.cause
