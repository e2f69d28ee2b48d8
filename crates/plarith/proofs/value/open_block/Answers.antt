use Rattle.std.proofs.Common.{◌≡◌, ap, sym, ◌∙◌, subst, Some}
use Rattle.std.proofs.lemmas.Result.{IfOk-weaker}
use Rattle.platoms.specs.Names.{Table, atom_at, functor_at, functor_name, operation_at}
use Rattle.plcells.specs.Store.{term}
use Rattle.plarith.specs.declared.operand.Opened.TheVariants.{Known}
use Rattle.plarith.specs.Evaluation.{not_evaluable}
use Rattle.plarith.specs.Operands.{Opens}
use Rattle.plarith.specs.Values.{IsOperand, tree}
use Rattle.plarith.proofs.HeapTerms.{block_of_one, block_of_two, block_of_none}
use Rattle.plarith.proofs.value.open_block.Goals as goal

pub returns-in-Some-One : goal.returns-in-Some-One
returns-in-Some-One c =
    let h = c.args.heap.now in
    let found : c.operation.result ≡ operation_at h.names c.block-f.result.0 = c.operation.ensures ∙ ap (λ (t : Table). operation_at t c.block-f.result.0) c.names.ensures in
    block_of_one h c.args.p c.block-f.result.0 c.block-f.result.1 c.block-f.ensures.block c.in-Some-One.f c.argument.result (sym found ∙ c.in-Some-One.is ∙ (λ i. Some (c.in-Some-One.field-0-is i))) (rw c.arg.ensures at c.argument.ensures.same) c.argument.ensures.fits

pub returns-in-Some-Two : goal.returns-in-Some-Two
returns-in-Some-Two c =
    let h = c.args.heap.now in
    let found : c.operation.result ≡ operation_at h.names c.block-f.result.0 = c.operation.ensures ∙ ap (λ (t : Table). operation_at t c.block-f.result.0) c.names.ensures in
    block_of_two h c.args.p c.block-f.result.0 c.block-f.result.1 c.block-f.ensures.block c.in-Some-Two.f c.argument-in-Some-Two.result c.argument-in-Some-Two-2.result (sym found ∙ c.in-Some-Two.is ∙ (λ i. Some (c.in-Some-Two.field-0-is i))) (rw c.arg-in-Some-Two.ensures at c.argument-in-Some-Two.ensures.same)
    (rw c.arg-in-Some-Two-2.ensures at c.argument-in-Some-Two-2.ensures.same) c.argument-in-Some-Two.ensures.fits c.argument-in-Some-Two-2.ensures.fits

pub returns-in-None : goal.returns-in-None
returns-in-None c =
    let h = c.args.heap.now in
    let found : c.operation.result ≡ operation_at h.names c.block-f.result.0 = c.operation.ensures ∙ ap (λ (t : Table). operation_at t c.block-f.result.0) c.names.ensures in
    let f = c.block-f.result.0 in
    let named : c.atom_name.result.now ≡ functor_name h.names f =
    c.atom_name.ensures.is ∙ ap (λ t. atom_at t c.functor_of-functor.result.name) c.names-in-None-2.ensures ∙ ap (λ k. atom_at h.names k.name) (c.functor_of-functor.ensures.is ∙ ap (λ t. functor_at t f) c.names-in-None.ensures) in
    let opens = block_of_none h c.args.p f c.block-f.result.1 c.block-f.ensures.block (sym found ∙ c.in-None.is) in
    IfOk-weaker _ _ _ (λ o e. subst (Opens (tree h) (IsOperand h) (term h c.args.p)) (sym (e ∙ ap (λ s. Known (not_evaluable s c.block-f.result.1)) named)) opens) c.unknown.ensures
