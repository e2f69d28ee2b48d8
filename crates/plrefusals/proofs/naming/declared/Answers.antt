use Rattle.std.proofs.Common.{Some, ap, sym, ◌∙◌}
use Rattle.plgoals.proofs.Joining.{if_ok}
use Rattle.plrefusals.proofs.Declaring.{declared, lacks}
use Rattle.plrefusals.proofs.naming.declared.Goals as goal

pub returns-in-All : goal.returns-in-All
returns-in-All c =
    let is = rw c.in-All.is at c.in_ok-procedures.ensures in
    if_ok _ _ c.declare_all.result (λ d are. declared c.args.program.now c.args.terms.now (sym c.any_open.ensures ∙ c.if-any_open.false) c.in-All.procedures.items is.0 is.1 d are) c.declare_all.ensures

pub returns-in_ok-error-in-Lacks : goal.returns-in_ok-error-in-Lacks
returns-in_ok-error-in-Lacks c =
    lacks c.args.program.now c.args.terms.now (sym c.any_open.ensures ∙ c.if-any_open.false) c.in-Lacks.culprit (rw c.in-Lacks.is at c.in_ok-procedures.ensures) ∙ ap Some (sym c.in_ok-error-in-Lacks.ensures)
