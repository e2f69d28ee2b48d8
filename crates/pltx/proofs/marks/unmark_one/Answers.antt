use Rattle.std.proofs.Common.{◌∙◌, sym, ap, ap₂, None}
use Rattle.std.specs.HashMap.{get}
use Rattle.plevent.specs.Alive.{change_if}
use Rattle.pltx.specs.Own.{is_target, same_target}
use Rattle.pltx.specs.contracts.target.TargetPartialEq.TheImpl.{eq-value}
use Rattle.pltx.proofs.Targets.{cond-is, eq-is, get-is}
use Rattle.pltx.proofs.marks.unmark_one.Goals as goal

pub returns-in-Some : goal.returns-in-Some
returns-in-Some c = λ t.
    sym (get-is c.remove.new.self t) ∙ c.remove.ensures.updates.0 t ∙ cond-is (eq-value.it c.in-Some.target t) None (get eq-value.it c.args.marks.now t)
    ∙ ap₂ (λ v o. change_if v None o) (eq-is c.in-Some.target t) (get-is c.args.marks.now t)
    ∙ ap (λ o. change_if (is_target t o) None (get same_target c.args.marks.now t)) (sym c.in-Some.is ∙ c.target_of.ensures)
