use Rattle.std.proofs.Common.{ap, map, length, subst, ◌≡◌, ◌∙◌}
use Rattle.std.specs.Prelude.{IfSome}
use Rattle.platoms.specs.Names.{IsTable}
use Rattle.plcells.specs.Store.{value}
use Rattle.plgoals.specs.Callables.{called, IsCallable}
use Rattle.plmachine.proofs.Terms.{selected-by}
use Rattle.plmachine.proofs.machine.Machine.form.Goals as goal

pub returns : goal.returns
returns c = λ P source t begun visits is.
    let s = c.args.self.now in
    let h = s.stack.env.heap in
    let heap = c.heap-heap.ensures.is ∙ ap (λ e. e.heap) c.env.ensures in
    let table = subst (λ e. IsTable e.heap.names) c.env.ensures c.heap-heap.ensures.env.heap.names in
    selected-by P s begun visits is.values is.few source t is.stands c.in-Some.number
    (subst (λ o. IfSome o (λ n. IsCallable h.names n (length s.args.items))) c.in-Some.is is.callable)
    (subst (λ o. IfSome o (λ n. t ≡ called h.names n (map (value h) s.args.items))) c.in-Some.is is.is)
    c.code.ensures.names table c.heap-heap.result.now c.deref.result.now c.code.result.now heap c.deref.ensures.value c.code.ensures.is c.form_of.result c.form_of.ensures.is c.form_of.ensures.inside c.form_of.ensures.procedure
