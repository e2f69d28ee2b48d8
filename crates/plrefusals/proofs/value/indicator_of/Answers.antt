use Rattle.std.proofs.Common.{refl, ap, ap₂, ◌∙◌}
use Rattle.platoms.specs.Names.{atom_at, functor_at}
use Rattle.plrefusals.proofs.Values.{end-no-name, block-name}
use Rattle.plrefusals.proofs.value.indicator_of.Goals as goal

pub returns-in_ok-name-in-Str : goal.returns-in_ok-name-in-Str
returns-in_ok-name-in-Str c =
    let h = c.args.heap.now in
    block-name h c.in-Str.p c.block-f.result.0 c.block-f.result.1 _ _ c.block-f.ensures.block
    (c.in_ok-name-in-Str.ensures ∙ c.atom_name-in-Str.ensures.is ∙ ap₂ (λ t f. atom_at t f.name) c.names-in-Str-2.ensures (c.functor_of-functor.ensures.is ∙ ap (λ t. functor_at t c.block-f.result.0) c.names-in-Str.ensures))
    c.in-Str.ensures.same

pub returns-in_ok-name-in_default : goal.returns-in_ok-name-in_default
returns-in_ok-name-in_default c =
    ap₂ (λ s n. record { name = s; arity = n }) c.in_ok-name-in_default.ensures refl
    ∙ end-no-name c.args.heap.now c.root.result _ c.root.ensures.heap c.root.ensures.end c.in_default.not-Atom c.in_default.not-Str c.root.ensures.same
