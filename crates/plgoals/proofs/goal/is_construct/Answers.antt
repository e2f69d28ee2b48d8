use Rattle.std.proofs.Common.{◌∙◌, sym, ap}
use Rattle.platoms.specs.Names.{atom_at, functor_at}
use Rattle.plgoals.proofs.Shapes.{construct-is, other-is}
use Rattle.plgoals.proofs.goal.is_construct.Goals as goal

pub returns-clause-yes : goal.returns-clause-yes
returns-clause-yes c =
    let h = c.args.heap.now in
    let f = c.block-f.result.0 in
    let e = c.atom_name-name.ensures.is ∙ ap (λ t. atom_at t c.functor_of-functor.result.name) c.names-2.ensures ∙ ap (λ k. atom_at h.names k.name) (c.functor_of-functor.ensures.is ∙ ap (λ t. functor_at t f) c.names.ensures) in
    λ is. construct-is h c.args.p f c.block-f.result.1 _ c.block-f.ensures.heap c.block-f.ensures.block e c.requires.head c.requires.within (sym c.holds_goals.ensures ∙ is)

pub returns-clause-no : goal.returns-clause-no
returns-clause-no c =
    let h = c.args.heap.now in
    let f = c.block-f.result.0 in
    let e = c.atom_name-name.ensures.is ∙ ap (λ t. atom_at t c.functor_of-functor.result.name) c.names-2.ensures ∙ ap (λ k. atom_at h.names k.name) (c.functor_of-functor.ensures.is ∙ ap (λ t. functor_at t f) c.names.ensures) in
    λ is. other-is h c.args.p f c.block-f.result.1 _ c.block-f.ensures.heap c.block-f.ensures.block e (sym c.holds_goals.ensures ∙ is)
