use Rattle.plload.proofs.Wholes.{whole_early, whole_result}
use Rattle.plload.proofs.goal.clause_term.Goals as goal

pub returns-then-clause-text : goal.returns-then-clause-text
returns-then-clause-text c =
    let s = c.args.settings.now in
    let text = c.args.text.now in
    let spelled = rw c.deref.ensures.value at c.read.ensures in
    whole_result text s c.args.clause.now.tokens.items c.args.clause.now.after c.requires.clause c.if-clause-text.true c.read.result spelled

pub returns-else-clause-text : goal.returns-else-clause-text
returns-else-clause-text c = whole_early c.args.text.now c.args.settings.now c.args.clause.now.tokens.items c.args.clause.now.after c.requires.clause c.if-clause-text.false
