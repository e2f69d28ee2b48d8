use Rattle.plload.proofs.Wholes.{whole_over, whole_fault}
use Rattle.plload.proofs.goal.whole_term.Goals as goal

pub returns-in-Ok-None : goal.returns-in-Ok-None
returns-in-Ok-None c =
    let over = rw c.in-Ok-None.field-0-is at c.in-Ok-None.ensures.lexed in
    whole_over c.args.text.now c.args.settings.now over

pub returns-in-Err-Bad : goal.returns-in-Err-Bad
returns-in-Err-Bad c =
    let fault = rw c.in-Err-Bad.field-0-is at c.in-Err-Bad.ensures.lexed in
    whole_fault c.args.text.now c.args.settings.now c.in-Err-Bad.field-0-0 c.in-Err-Bad.field-0-1 fault
