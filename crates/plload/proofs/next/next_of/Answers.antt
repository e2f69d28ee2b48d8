use Rattle.plload.specs.Loading.{lexical}
use Rattle.plload.proofs.Loadings.{next_result}
use Rattle.plload.proofs.next.next_of.Goals as goal

pub returns-in-Ok-Some-clause-next : goal.returns-in-Ok-Some-clause-next
returns-in-Ok-Some-clause-next c =
    let clause = rw c.in-Ok-Some.field-0-is at c.in-Ok-Some.ensures.lexed in
    next_result c.args.text.now c.args.from c.args.settings.now c.in-Ok-Some.clause.tokens.items c.in-Ok-Some.clause.after c.clause_next.result clause c.clause_next.ensures

pub returns-in-Err-Bad-clause-next : goal.returns-in-Err-Bad-clause-next
returns-in-Err-Bad-clause-next c =
    let fault = rw c.in-Err-Bad.field-0-is at c.in-Err-Bad.ensures.lexed in
    rw c.in-Err-Bad.place-is (lexical fault)
