use Rattle.std.proofs.Common.{◌≡◌, sym, true, subst, ◌↔◌}
use Rattle.plload.specs.Goals.{HasGoal}
use Rattle.plload.proofs.Wholes.{goal_told}
use Rattle.plload.proofs.goal.is_goal.Goals as goal

pub returns : goal.returns
returns c = subst (λ b. (b ≡ true) ↔ HasGoal c.args.text.now) (sym c.is_some.ensures) (goal_told c.args.text.now c.in_ok-goal.goal c.in_ok-goal.ensures)
