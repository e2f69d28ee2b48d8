use Rattle.std.proofs.Common.{◌∙◌, None}
use Rattle.plload.specs.Goals.{IsWhole, Whole}
use Rattle.plload.proofs.Wholes.{no_term, goal_result}
use Rattle.plload.proofs.goal.read_goal.Goals as goal

pub returns-in-None : goal.returns-in-None
returns-in-None c =
    let whole = c.deref.result.now in
    let settings = c.in_ok-settings.settings in
    let none : Whole whole settings None = rw c.in-None.is at c.in_ok-whole_term.ensures in
    no_term c.args.text.now whole settings (c.deref.ensures.value ∙ c.in_ok-whole.ensures) c.in_ok-settings.ensures none

pub returns : goal.returns
returns c =
    let whole = c.deref.result.now in
    let settings = c.in_ok-settings.settings in
    let is : IsWhole whole settings c.in-Some.term = rw c.in-Some.is at c.in_ok-whole_term.ensures in
    goal_result c.args.text.now whole settings (c.deref.ensures.value ∙ c.in_ok-whole.ensures) c.in_ok-settings.ensures c.in-Some.term is c.runnable.result c.runnable.ensures
