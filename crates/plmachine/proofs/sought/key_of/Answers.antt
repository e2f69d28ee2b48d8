use Rattle.std.proofs.Common.{ap, ◌∙◌}
use Rattle.platoms.specs.Names.{atom_at, functor_at}
use Rattle.plcells.specs.Store.{value}
use Rattle.plmachine.proofs.Firsts.{block-key, end-any}
use Rattle.plmachine.proofs.sought.key_of.Goals as goal

pub returns-in_ok-name-in-Str : goal.returns-in_ok-name-in-Str
returns-in_ok-name-in-Str c =
    block-key c.args.heap.now c.in-Str.p c.block-f.result.0 c.block-f.result.1 _ _ c.block-f.ensures.block
    (c.in_ok-name-in-Str.ensures ∙ c.atom_name-in-Str.ensures.is ∙ ap (λ t. atom_at t c.functor_of-functor.result.name) c.names-in-Str-2.ensures ∙ ap (λ f. atom_at c.args.heap.now.names f.name) (c.functor_of-functor.ensures.is ∙ ap (λ t. functor_at t c.block-f.result.0) c.names-in-Str.ensures))
    c.in-Str.ensures.same

pub returns-in_default : goal.returns-in_default
returns-in_default c =
    end-any c.args.heap.now c.root-root.result (value c.args.heap.now c.args.v) c.root-root.ensures.heap c.root-root.ensures.end
    (λ n is. c.in_default.not-Int n is) (λ p is. c.in_default.not-Wide p is) (λ a is. c.in_default.not-Atom a is) (λ p is. c.in_default.not-Str p is) c.root-root.ensures.same
