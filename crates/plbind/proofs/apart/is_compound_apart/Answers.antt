use Rattle.std.proofs.Common.{◌≡◌, suc, sym, ap, ◌∙◌, subst, inl, inr}
use Rattle.plterm.specs.Tree.{compound, trees}
use Rattle.plterm.specs.Shown.{shown}
use Rattle.platoms.specs.Names.{atom_at, functor_at, functor_name}
use Rattle.plcells.specs.Store.{terms}
use Rattle.plbind.specs.Apart.{AreApart}
use Rattle.plbind.proofs.Clashing.{compound-atom, compound-int, names-apart, unless-same}
use Rattle.plbind.proofs.apart.is_compound_apart.Goals as goal

pub returns-in-Atom : goal.returns-in-Atom
returns-in-Atom c h =
    let heap = c.args.heap.now in
    let block = c.block-f.ensures.block in
    let s = functor_name heap.names c.block-f.result.0 in
    let ts = trees (terms heap (suc c.args.p) c.block-f.result.1) in
    subst (λ a. AreApart a c.args.term.now) (sym block.is) (elim c.in-Atom.is [
      | inl p ↦ subst (AreApart (compound s ts)) (ap shown (sym p.1) ∙ c.shape.ensures.shown) (compound-atom s p.0.now ts)
      | inr p ↦ subst (AreApart (compound s ts)) (ap shown (sym p.1) ∙ c.shape.ensures.shown) (compound-int s ts p.0)
    ])

pub returns-in-Compound : goal.returns-in-Compound
returns-in-Compound c h =
    let heap = c.args.heap.now in
    let block = c.block-f.ensures.block in
    let f = c.block-f.result.0 in
    let ts = trees (terms heap (suc c.args.p) c.block-f.result.1) in
    let s = c.in-Compound.name.now in
    let name : c.atom_name.result.now ≡ functor_name heap.names f =
    c.atom_name.ensures.is ∙ ap (λ t. atom_at t c.functor_of-functor.result.name) c.names-in-Compound.ensures
    ∙ ap (λ k. atom_at heap.names k.name) (c.functor_of-functor.ensures.is ∙ ap (λ t. functor_at t f) c.names.ensures) in
    subst (λ a. AreApart a c.args.term.now) (sym block.is)
    (subst (AreApart (compound (functor_name heap.names f) ts)) (ap shown (sym c.in-Compound.is) ∙ c.shape.ensures.shown)
    (names-apart (functor_name heap.names f) s ts (trees c.in-Compound.field-1) (λ e. unless-same c.is_same.result h (c.is_same.ensures.1 (name ∙ e)))))
