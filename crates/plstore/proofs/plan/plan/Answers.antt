use Rattle.std.proofs.Common.{◌∙◌, sym, ap, ap₂, subst, ◌++◌, [], ◌∷◌, arith}
use Rattle.std.proofs.lemmas.Grind.{common_steps}
use Rattle.plstore.specs.Plan.{updates_of, AllPlanned}
use Rattle.plstore.proofs.Plans.{updates-append, all-push}
use Rattle.plstore.proofs.plan.plan.Goals as goal

pub loop-update-preserved : goal.loop-update-preserved
loop-update-preserved c =
    let i = c.loop-update.invariant in
    let x = c.in_ok-made_plan.field-0 in (
      ap updates_of c.in_ok-push.ensures.items ∙ updates-append c.loop-update.plan.items (x ∷ []) ∙ ap₂ (λ a b. a ++ b ∷ []) i.0 c.in_ok-made_plan.ensures.update ∙ grind (arith, common_steps),
      subst AllPlanned (sym c.in_ok-push.ensures.items) (all-push c.loop-update.plan.items x i.1 c.in_ok-made_plan.ensures.planned),
    )
