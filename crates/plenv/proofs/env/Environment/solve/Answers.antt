use Rattle.std.proofs.Common.{◌≡◌, ◌≤◌, ◌∙◌, length, ap, ap₂, sym, refl, subst, arith, None}
use Rattle.plsubst.specs.Unify.{unify}
use Rattle.plcells.specs.Equations.{left_of, right_of}
use Rattle.plenv.specs.Env.{Env, IsEnv, cut}
use Rattle.plenv.specs.Changes.{bounded}
use Rattle.plenv.specs.Solving.{Solves}
use Rattle.plenv.proofs.Marking.{mark-cells, mark-slots, back-stays}
use Rattle.plenv.proofs.Renaming.{IsMark-kept}
use Rattle.plenv.proofs.Solving.{equation-noted, solves-under, unsolved-under}
use Rattle.plenv.proofs.env.Environment.solve.Goals as goal

pub solve_in_choice-solved-requires : goal.solve_in_choice-solved-requires
solve_in_choice-solved-requires c =
    let e : Env = c.args.self.now in
    rw c.mark-mark.ensures.same (equation-noted e.heap (length e.heap.cells) e.count c.args.equation c.requires)

pub forget-requires-clause-cells : goal.forget-requires-clause-cells
forget-requires-clause-cells c =
    let m = c.mark-mark.ensures in
    let e : Env = c.args.self.now in
    let w = c.in-Ok-true.ensures.keeps.within c.mark-mark.result m.mark.within in
    let old : c.boundary-cells.result ≤ length e.heap.cells = rw (← c.self.view_is) (c.boundary-cells.ensures.within) in
    omega (arith, old, w.heap.old, mark-cells c.mark-mark.result e c.mark-mark.new.self m.now m.same)

pub forget-requires-clause-slots : goal.forget-requires-clause-slots
forget-requires-clause-slots c =
    let m = c.mark-mark.ensures in
    let e : Env = c.args.self.now in
    let w = c.in-Ok-true.ensures.keeps.within c.mark-mark.result m.mark.within in
    let old : c.self.inside.boundary ≤ length e.slots = rw (← c.self.view_is) c.self.invariant.bounded in
    omega (arith, old, w.old, mark-slots c.mark-mark.result e c.mark-mark.new.self m.now m.same)

pub undo-requires : goal.undo-requires
undo-requires c = IsMark-kept c.mark-mark.result c.mark-mark.new.self c.solve_in_choice-solved.new.self c.in-Ok-false.ensures.keeps c.heap.ensures.env.heap.names c.mark-mark.ensures.mark

pub undo-requires-in-Err : goal.undo-requires-in-Err
undo-requires-in-Err c = IsMark-kept c.mark-mark.result c.mark-mark.new.self c.solve_in_choice-solved.new.self c.in-Err.ensures.keeps c.heap.ensures.env.heap.names c.mark-mark.ensures.mark

pub returns-in-Ok-true-clause-yes : goal.returns-in-Ok-true-clause-yes
returns-in-Ok-true-clause-yes c so =
    let e : Env = c.args.self.now in
    let new : Env = c.solve_in_choice-solved.new.self in
    let q = c.args.equation in
    let m = c.mark-mark.ensures in
    let is : IsEnv e = rw (← c.self.view_is) (record { heap = c.boundary-cells.ensures.heap; slots = c.self.invariant }) in
    let cells : c.boundary-cells.result ≡ e.heap.boundary = rw (← c.self.view_is) c.boundary-cells.ensures.is in
    let slots : c.self.inside.boundary ≡ e.boundary = rw (← c.self.view_is) refl in
    let marked = subst (λ (x : Env). Solves x new (left_of x.heap x.count q) (right_of x.heap x.count q) q.new) m.same (c.in-Ok-true.ensures.yes c.in-Ok-true.field-0-test) in
    subst (λ (x : Env). Solves e x (left_of e.heap e.count q) (right_of e.heap e.count q) q.new) (sym (c.forget.ensures ∙ ap₂ (λ i j. bounded i j new) cells slots))
    (solves-under e new (length e.heap.cells) (length e.slots) is.heap.bounded is.slots.bounded q c.requires is c.heap.ensures.env marked)

pub returns-in-Ok-false-clause-no : goal.returns-in-Ok-false-clause-no
returns-in-Ok-false-clause-no c so =
    let e : Env = c.args.self.now in
    let new : Env = c.solve_in_choice-solved.new.self in
    let q = c.args.equation in
    let m = c.mark-mark.ensures in
    let is : IsEnv e = rw (← c.self.view_is) (record { heap = c.boundary-cells.ensures.heap; slots = c.self.invariant }) in
    let cells : c.boundary-cells.result ≡ e.heap.boundary = rw (← c.self.view_is) c.boundary-cells.ensures.is in
    let slots : c.self.inside.boundary ≡ e.boundary = rw (← c.self.view_is) refl in
    let none = subst (λ (x : Env). unify (left_of x.heap x.count q) (right_of x.heap x.count q) ≡ None) m.same (c.in-Ok-false.ensures.no c.in-Ok-false.field-0-test) in
    let back = c.forget-in-Ok-false.ensures ∙ ap (bounded c.boundary-cells.result c.self.inside.boundary) c.undo.ensures ∙ ap₂ (λ i j. bounded i j (cut c.mark-mark.result new)) cells slots in (
      unsolved-under e new (length e.heap.cells) (length e.slots) is.heap.bounded is.slots.bounded q c.requires is c.heap.ensures.env none,
      back-stays c.mark-mark.result e c.mark-mark.new.self m.now m.same new c.forget-in-Ok-false.new.self is c.heap.ensures.env.heap.names c.in-Ok-false.ensures.keeps m.mark.within back,
    )

pub returns-in-Err-clause-err : goal.returns-in-Err-clause-err
returns-in-Err-clause-err c =
    let e : Env = c.args.self.now in
    let new : Env = c.solve_in_choice-solved.new.self in
    let m = c.mark-mark.ensures in
    let is : IsEnv e = rw (← c.self.view_is) (record { heap = c.boundary-cells.ensures.heap; slots = c.self.invariant }) in
    let cells : c.boundary-cells.result ≡ e.heap.boundary = rw (← c.self.view_is) c.boundary-cells.ensures.is in
    let slots : c.self.inside.boundary ≡ e.boundary = rw (← c.self.view_is) refl in
    let back = c.forget-in-Err.ensures ∙ ap (bounded c.boundary-cells.result c.self.inside.boundary) c.undo-in-Err.ensures ∙ ap₂ (λ i j. bounded i j (cut c.mark-mark.result new)) cells slots in
    back-stays c.mark-mark.result e c.mark-mark.new.self m.now m.same new c.forget-in-Err.new.self is c.heap.ensures.env.heap.names c.in-Err.ensures.keeps m.mark.within back
