use Rattle.std.proofs.Common.{None, ap, subst, ◌∙◌}
use Rattle.plread.specs.Looks.{view}
use Rattle.plread.specs.Answers.{Answers}
use Rattle.plread.proofs.read.read_clause.Goals as goal

pub returns-clause-none : goal.returns-clause-none
returns-clause-none c =
    let signs = ap (view c.in_ok-words.field-0.words) c.deref.ensures.value ∙ c.in_ok-words.ensures.signs in
    let answer = subst (Answers c.args.ops.now c.args.levels (view c.in_ok-words.field-0.words c.deref.result.now)) c.in-None.is c.in_ok-term.ensures in
    (c.start_of.ensures, subst (λ l. Answers c.args.ops.now c.args.levels l None) signs answer)
