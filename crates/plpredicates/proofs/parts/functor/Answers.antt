use Rattle.std.proofs.Common.{◌≡◌, pos, sym, ap₂, ◌∙◌, rules}
use Rattle.plterm.specs.Tree.{int, atom}
use Rattle.plcells.specs.Store.{value}
use Rattle.plbuiltin.specs.Solution.{unifies}
use Rattle.planswers.proofs.Forwarding.{forwarded}
use Rattle.std.proofs.Common.{w32, to_z, of_z}
use Rattle.platoms.specs.Names.{atom_at, functor_name}
use Rattle.plbuiltin.specs.Parts.{both, functor}
use Rattle.plpredicates.proofs.Structures.{functor-atomic, functor-compound}
use Rattle.plpredicates.proofs.parts.functor.Goals as goal

pub returns-in-Compound-clause-is : goal.returns-in-Compound-clause-is
returns-in-Compound-clause-is c =
    let h = c.args.heap.now in
    let name = value h c.args.name in
    let arity = value h c.args.arity in
    let b = c.in-Compound.block in
    let is = c.in-Compound.ensures in
    let named : atom_at h.names c.functor_of-functor.result.name ≡ functor_name h.names b.functor = search rules in
    let arguments : to_z w32 (of_z w32 c.from.result) ≡ pos b.arity = search rules in
    forwarded c.are_values.result h (λ s n. unifies (both name arity) (both (atom (atom_at h.names c.functor_of-functor.result.name)) (int (to_z w32 (of_z w32 c.from.result)))) s) (λ s n. functor (value h c.args.term) name arity s n) (c.are_values.ensures.is h)
    (λ s n.
    ap₂ (λ f i. unifies (both name arity) (both (atom f) (int i)) s) named arguments
    ∙ sym (functor-compound h b.place b.functor b.arity is.1 (value h c.args.term) is.2 s name arity n))

pub returns-in_default-clause-is : goal.returns-in_default-clause-is
returns-in_default-clause-is c =
    let h = c.args.heap.now in
    let t = value h c.args.term in
    let name = value h c.args.name in
    let arity = value h c.args.arity in
    forwarded c.are_values-in_default.result h (λ s n. unifies (both name arity) (both t (int (pos 0))) s) (λ s n. functor t name arity s n) (c.are_values-in_default.ensures.is h)
    (λ s n. sym (functor-atomic h t name arity s n c.shape_of.result c.shape_of.ensures c.in_default.not-Variable c.in_default.not-Compound))

pub returns-in_default-clause-there : goal.returns-in_default-clause-there
returns-in_default-clause-there c = c.are_values-in_default.ensures.there c.args.heap.now c.requires.name c.requires.arity c.requires.term tt
