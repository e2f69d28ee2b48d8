use Rattle.std.proofs.Common.{◌≡◌, ◌+◌, [], ◌∷◌, ◌++◌, sym, ap, ap₂, ◌∙◌, arith, rules}
use Rattle.plterm.specs.Tree.{var}
use Rattle.plgenerator.proofs.Grouping.{variables-more}
use Rattle.plgenerator.proofs.group.variables.Goals as goal

pub loop-i-preserved : goal.loop-i-preserved
loop-i-preserved c =
    let i = c.loop-i.i in
    let pushed : c.push.new.self.items ≡ c.loop-i.terms.items ++ c.in_ok-var.field-0 ∷ [] = search rules in
    let place : i + 1 ≡ 1 + i = omega arith in
    pushed ∙ ap₂ (λ ts t. ts ++ t ∷ []) c.loop-i.invariant (c.in_ok-var.ensures ∙ ap var place) ∙ sym (variables-more 1 i)
