use Rattle.std.proofs.Common.{◌∷◌, length, refl, sym, ap, ◌∙◌, arith, subst}
use Rattle.std.proofs.lemmas.Result.{IfOk-weaker}
use Rattle.plterm.specs.Variables.{AllBelow}
use Rattle.plsubst.specs.Subst.{bind}
use Rattle.plcells.specs.Equations.{filled}
use Rattle.planswers.specs.Building.{width}
use Rattle.planswers.proofs.Filling.{bind-listed, below-listed}
use Rattle.planswers.proofs.equation.list_equation.Goals as goal

pub equation_of-requires : goal.equation_of-requires
equation_of-requires c =
    let m = width c.args.items.now 0 in
    record { below = subst (AllBelow m) (sym c.in_ok-right.ensures) (below-listed m 1 (length c.args.items.now) (omega arith)) }

pub returns-clause-right : goal.returns-clause-right
returns-clause-right c = λ h n.
    let v = c.args.v in
    let vs = c.args.items.now in
    IfOk-weaker c.equation_of.result _ _ (λ e is. is ∙ ap (bind (filled h (v ∷ vs) n)) c.in_ok-right.ensures ∙ bind-listed h v vs n (length vs) refl) (c.equation_of.ensures.right h n)
