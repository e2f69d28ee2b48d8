use Rattle.std.proofs.Common.{◌∙◌, sym, ap₂, Some}
use Rattle.std.specs.HashMap.{get}
use Rattle.plevent.specs.Alive.{change_if}
use Rattle.pltx.specs.contracts.target.TargetPartialEq.TheImpl.{eq-value}
use Rattle.pltx.proofs.Targets.{cond-is, eq-is, get-is}
use Rattle.pltx.proofs.marks.mark.Goals as goal

pub returns : goal.returns
returns c = λ t.
    sym (get-is c.insert.new.self t) ∙ c.in-Ok.ensures.updates.0 t ∙ cond-is (eq-value.it c.args.target t) (Some c.args.number) (get eq-value.it c.args.marks.now t)
    ∙ ap₂ (λ v o. change_if v (Some c.args.number) o) (eq-is c.args.target t) (get-is c.args.marks.now t)
