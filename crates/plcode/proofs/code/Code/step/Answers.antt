use Rattle.std.proofs.Common.{List, get_or, subst, ap, ◌∙◌, sym, arith}
use Rattle.std.specs.Option.{unwrap_or}
use Rattle.plcode.specs.declared.op.Step.{Step}
use Rattle.plcode.specs.Steps.{text_of, Meets}
use Rattle.plcode.proofs.Meanings.{nowhere}
use Rattle.plcode.proofs.Programs.{meets_at}
use Rattle.plcode.proofs.code.Code.step.Goals as goal

pub returns-clause-is : goal.returns-clause-is
returns-clause-is c t =
    c.unwrap_or.ensures
    ∙ ap (λ o. unwrap_or o nowhere) c.copied.ensures
    ∙ c.get.ensures.lookup.4 (omega arith) nowhere
    ∙ ap (λ (ss : List Step). get_or ss c.args.place nowhere) c.deref.ensures.value

pub returns-clause-meets : goal.returns-clause-meets
returns-clause-meets c t code = let P : Step → Type 0 = Meets (text_of t c.args.self.now) c.args.place in subst P (sym (returns-clause-is c t)) (meets_at (text_of t c.args.self.now) code c.args.place)
