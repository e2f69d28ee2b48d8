use Rattle.std.proofs.Common.{◌≤◌, ◌∙◌, length, ap, ap₂, subst, sym, arith}
use Rattle.plsubst.specs.Unify.{unify}
use Rattle.plcells.specs.Store.{value, bounded_by}
use Rattle.plbind.specs.Unifying.{Unified}
use Rattle.plbind.proofs.Giving.{unified-under, none-under, mark-all, given-back}
use Rattle.plbind.proofs.unify.unify.Goals as goal

pub forget-requires : goal.forget-requires
forget-requires c =
    let w = c.in-Ok-true.ensures.keeps.keeps.within c.mark-mark.result c.mark-mark.ensures.mark.within in
    let all = mark-all c.mark-mark.result c.args.heap.now c.mark-mark.new.self c.mark-mark.ensures.now c.mark-mark.ensures.same in
    omega (arith, w.old, all, c.boundary-boundary.ensures.within)

pub returns-in-Ok-true-clause-yes : goal.returns-in-Ok-true-clause-yes
returns-in-Ok-true-clause-yes c = λ e.
    let h = c.args.heap.now in
    let a = c.args.a in
    let b = c.args.b in
    let new = c.unify_in_choice.new.heap in
    let u = c.in-Ok-true.ensures.yes c.in-Ok-true.field-0-test in
    let v = subst (λ x. Unified x new (value x a) (value x b)) c.mark-mark.ensures.same u in
    let le : h.boundary ≤ length h.cells = omega (arith, c.boundary-boundary.ensures.within, c.boundary-boundary.ensures.is) in
    subst (λ x. Unified h x (value h a) (value h b)) (sym (c.forget.ensures ∙ ap (bounded_by new) c.boundary-boundary.ensures.is)) (unified-under h new (length h.cells) le a b v)

pub returns-in-Ok-false-clause-no : goal.returns-in-Ok-false-clause-no
returns-in-Ok-false-clause-no c = λ e.
    let h = c.args.heap.now in
    let n = c.in-Ok-false.ensures.no c.in-Ok-false.field-0-test in (
      none-under h (length h.cells) c.args.a c.args.b (ap₂ unify (ap (λ x. value x c.args.a) (sym c.mark-mark.ensures.same)) (ap (λ x. value x c.args.b) (sym c.mark-mark.ensures.same)) ∙ n),
      given-back c.mark-mark.result h c.mark-mark.new.self c.unify_in_choice.new.heap c.undo.new.self c.forget-in-Ok-false.new.self c.boundary-boundary.result c.mark-mark.ensures.now c.mark-mark.ensures.same c.mark-mark.ensures.mark.within c.in-Ok-false.ensures.keeps c.undo.ensures c.forget-in-Ok-false.ensures c.boundary-boundary.ensures.is,
    )
