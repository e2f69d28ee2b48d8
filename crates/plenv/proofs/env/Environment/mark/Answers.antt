use Rattle.std.proofs.Common.{◌∙◌, length, refl, subst, sym, arith}
use Rattle.plcells.specs.Store.{Store, IsHeap, bounded_by}
use Rattle.plenv.specs.Env.{Env, AreSlots}
use Rattle.plenv.proofs.Keeping.{mark-now, mark-is}
use Rattle.plenv.proofs.env.Environment.mark.Goals as goal

pub returns-clause-now : goal.returns-clause-now
returns-clause-now c =
    let s = c.self.inside in
    mark-now _ _ c.mark-heap.ensures.now (c.len.ensures ∙ s.slots.ok.0) (c.len-2.ensures ∙ s.noted.ok.0) refl (c.len-self-inside.ensures ∙ s.slots.ok.0)

pub returns-clause-mark : goal.returns-clause-mark
returns-clause-mark c =
    let s = c.self.inside in
    let m = c.mark-heap.ensures in
    let all = c.len-self-inside.ensures ∙ s.slots.ok.0 in
    let over : Store → Env = λ (h : Store). record { heap = h; slots = s.slots.items; noted = s.noted.items; boundary = c.len-self-inside.result; count = s.count } in
    let slots : AreSlots (over (bounded_by s.heap (length s.heap.cells))) = record { fit = c.self.invariant.fit; once = c.self.invariant.once; low = c.self.invariant.low; bounded = omega (arith, all); few = c.self.invariant.few } in
    mark-is _ _ m.mark (subst IsHeap m.now m.mark.heap) (subst (λ h. AreSlots (over h)) (sym m.same) slots)
    (c.len.ensures ∙ s.slots.ok.0) (c.len-2.ensures ∙ s.noted.ok.0) all
    (mark-now _ _ m.now (c.len.ensures ∙ s.slots.ok.0) (c.len-2.ensures ∙ s.noted.ok.0) refl all)
