use Rattle.std.proofs.Common.{◌≡◌, ◌≤◌, ◌∙◌, length, ap, ap₂, sym, refl, subst, arith}
use Rattle.plsubst.specs.Subst.{shift}
use Rattle.plenv.specs.Env.{Env, IsEnv, cut}
use Rattle.plenv.specs.Changes.{bounded, PutsTerm}
use Rattle.plenv.proofs.Marking.{mark-cells, mark-slots, term-under, back-renamed, back-stays}
use Rattle.plenv.proofs.Renaming.{IsMark-kept}
use Rattle.plenv.proofs.env.Environment.put_term.Goals as goal

pub forget-requires-clause-cells : goal.forget-requires-clause-cells
forget-requires-clause-cells c =
    let m = c.mark-mark.ensures in
    let e : Env = c.args.self.now in
    let w = c.in-Ok.ensures.keeps.within c.mark-mark.result m.mark.within in
    let old : c.boundary-cells.result ≤ length e.heap.cells = rw (← c.self.view_is) (c.boundary-cells.ensures.within) in
    omega (arith, old, w.heap.old, mark-cells c.mark-mark.result e c.mark-mark.new.self m.now m.same)

pub forget-requires-clause-slots : goal.forget-requires-clause-slots
forget-requires-clause-slots c =
    let m = c.mark-mark.ensures in
    let e : Env = c.args.self.now in
    let w = c.in-Ok.ensures.keeps.within c.mark-mark.result m.mark.within in
    let old : c.self.inside.boundary ≤ length e.slots = rw (← c.self.view_is) c.self.invariant.bounded in
    omega (arith, old, w.old, mark-slots c.mark-mark.result e c.mark-mark.new.self m.now m.same)

pub undo-requires : goal.undo-requires
undo-requires c = IsMark-kept c.mark-mark.result c.mark-mark.new.self c.put_new-put.new.self c.in-Err.ensures.keeps c.heap.ensures.env.heap.names c.mark-mark.ensures.mark

pub returns-in-Ok-clause-ok : goal.returns-in-Ok-clause-ok
returns-in-Ok-clause-ok c =
    let e : Env = c.args.self.now in
    let new : Env = c.put_new-put.new.self in
    let m = c.mark-mark.ensures in
    let is : IsEnv e = rw (← c.self.view_is) (record { heap = c.boundary-cells.ensures.heap; slots = c.self.invariant }) in
    let cells : c.boundary-cells.result ≡ e.heap.boundary = rw (← c.self.view_is) c.boundary-cells.ensures.is in
    let slots : c.self.inside.boundary ≡ e.boundary = rw (← c.self.view_is) refl in
    let same_count : c.mark-mark.new.self.count ≡ e.count = ap (λ x. x.count) m.same in
    let t = shift e.count c.args.term.now in
    let puts = subst (λ n. PutsTerm c.mark-mark.new.self new c.in-Ok.v (shift n c.args.term.now) c.args.count) same_count c.in-Ok.ensures.ok in
    let marked = subst (λ x. PutsTerm x new c.in-Ok.v t c.args.count) m.same puts in
    subst (λ x. PutsTerm e x c.in-Ok.v t c.args.count) (sym (c.forget.ensures ∙ ap₂ (λ i j. bounded i j new) cells slots))
    (term-under e new (length e.heap.cells) (length e.slots) is.heap.bounded is.slots.bounded c.in-Ok.v t c.args.count is c.heap.ensures.env marked)

pub returns-in-Err-clause-err : goal.returns-in-Err-clause-err
returns-in-Err-clause-err c =
    let e : Env = c.args.self.now in
    let new : Env = c.put_new-put.new.self in
    let m = c.mark-mark.ensures in
    let is : IsEnv e = rw (← c.self.view_is) (record { heap = c.boundary-cells.ensures.heap; slots = c.self.invariant }) in
    let cells : c.boundary-cells.result ≡ e.heap.boundary = rw (← c.self.view_is) c.boundary-cells.ensures.is in
    let slots : c.self.inside.boundary ≡ e.boundary = rw (← c.self.view_is) refl in
    let back = c.forget-in-Err.ensures ∙ ap (bounded c.boundary-cells.result c.self.inside.boundary) c.undo.ensures ∙ ap₂ (λ i j. bounded i j (cut c.mark-mark.result new)) cells slots in
    back-stays c.mark-mark.result e c.mark-mark.new.self m.now m.same new c.forget-in-Err.new.self is c.heap.ensures.env.heap.names c.in-Err.ensures.keeps m.mark.within back

pub returns-in-Err-clause-back : goal.returns-in-Err-clause-back
returns-in-Err-clause-back c =
    let e : Env = c.args.self.now in
    let new : Env = c.put_new-put.new.self in
    let m = c.mark-mark.ensures in
    let cells : c.boundary-cells.result ≡ e.heap.boundary = rw (← c.self.view_is) c.boundary-cells.ensures.is in
    let slots : c.self.inside.boundary ≡ e.boundary = rw (← c.self.view_is) refl in
    let back = c.forget-in-Err.ensures ∙ ap (bounded c.boundary-cells.result c.self.inside.boundary) c.undo.ensures ∙ ap₂ (λ i j. bounded i j (cut c.mark-mark.result new)) cells slots in
    back-renamed c.mark-mark.result e c.mark-mark.new.self m.now m.same new c.forget-in-Err.new.self c.in-Err.ensures.keeps m.mark.within back
