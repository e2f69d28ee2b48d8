use Rattle.std.proofs.Common.{◌≡◌, [], sym, IfOk, subst}
use Rattle.std.specs.Prelude.{IfNone}
use Rattle.plgenerator.specs.Fitting.{fitting}
use Rattle.plgenerator.specs.Answers.{left}
use Rattle.plgenerator.proofs.generator.next.Goals as goal

pub returns-in-Groups-default-clause-none : goal.returns-in-Groups-default-clause-none
returns-in-Groups-default-clause-none c =
    let h = c.args.heap.now in
    subst (λ turn. IfOk c.next_group.result (λ o. IfNone o (fitting (left h c.args.args.now turn) ≡ []))) (sym c.in-Groups-default.is-0) (c.next_group.ensures.none h)
