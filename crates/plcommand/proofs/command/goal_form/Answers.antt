use Rattle.plterm.specs.Tree.{Tree}
use Rattle.plload.specs.Goals.{IsGoal}
use Rattle.plcommand.specs.Words.{runs}
use Rattle.plcommand.proofs.Asked.{no_goal}
use Rattle.plcommand.proofs.command.goal_form.Goals as goal

pub returns-in-Ok-Some-clause-means : goal.returns-in-Ok-Some-clause-means
returns-in-Ok-Some-clause-means c =
    let is : IsGoal c.args.text.now c.in-Ok-Some.goal = rw c.in-Ok-Some.field-0-is at c.in-Ok-Some.ensures in
    runs is

pub returns-in-Ok-None-clause-cause : goal.returns-in-Ok-None-clause-cause
returns-in-Ok-None-clause-cause c =
    let none : (goal : Tree) → IsGoal c.args.text.now goal → ⊥ = rw c.in-Ok-None.field-0-is at c.in-Ok-None.ensures in
    no_goal c.args.steps c.args.text.now none
