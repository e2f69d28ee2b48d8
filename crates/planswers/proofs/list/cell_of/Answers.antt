use Rattle.std.proofs.Common.{◌≡◌, refl, sym, ap, ◌∙◌, subst}
use Rattle.platoms.specs.Names.{atom_at, functor_at, functor_name}
use Rattle.plcells.specs.Store.{value}
use Rattle.plbuiltin.specs.Lists.{elements_of, ends}
use Rattle.planswers.specs.Lists.{IsCell, tail_at}
use Rattle.planswers.proofs.Cells.{cell_at, other_arity, other_name, no_compound}
use Rattle.planswers.proofs.list.cell_of.Goals as goal

pub returns-in_default : goal.returns-in_default
returns-in_default c =
    let h = c.args.heap.now in
    let e = c.root.ensures in
    record {
      some = tt;
      none = sym (ap elements_of e.same) ∙ no_compound h c.root.result e.heap e.fits e.end c.in_default.not-Str ∙ ap (λ t. ends (tail_at t)) e.same;
    }

pub returns-then-arity-ne2-clause-none : goal.returns-then-arity-ne2-clause-none
returns-then-arity-ne2-clause-none c =
    let h = c.args.heap.now in
    let e = sym (ap (value h) c.in-Str.is) ∙ c.root.ensures.same in
    sym (ap elements_of e) ∙ other_arity h c.in-Str.p c.block-f.result.0 c.block-f.result.1 _ c.block-f.ensures.block refl c.if-arity-ne2.true ∙ ap (λ t. ends (tail_at t)) e

pub returns-then-eq-clause-some : goal.returns-then-eq-clause-some
returns-then-eq-clause-some c =
    let h = c.args.heap.now in
    let f = c.block-f.result.0 in
    let e = sym (ap (value h) c.in-Str.is) ∙ c.root.ensures.same in
    let named : c.as_str.result.now ≡ functor_name h.names f =
    c.as_str.ensures ∙ c.atom_name-name.ensures.is ∙ ap (λ t. atom_at t c.functor_of-functor.result.name) c.names-2.ensures ∙ ap (λ k. atom_at h.names k.name) (c.functor_of-functor.ensures.is ∙ ap (λ t. functor_at t f) c.names.ensures) in
    let one = c.argument.ensures in
    let two = c.argument-then-eq.ensures in
    subst (λ t. IsCell h t c.argument.result c.argument-then-eq.result) e
    (cell_at h c.in-Str.p f c.block-f.result.1 c.as_str.result.now c.block-f.ensures.block named c.argument.result c.argument-then-eq.result c.if-arity-ne2.false (sym c.eq.ensures ∙ c.if-eq.true) one.fits two.fits (rw c.arg.ensures at one.same) (rw c.arg-then-eq.ensures at two.same))

pub returns-else-eq-clause-none : goal.returns-else-eq-clause-none
returns-else-eq-clause-none c =
    let h = c.args.heap.now in
    let f = c.block-f.result.0 in
    let e = sym (ap (value h) c.in-Str.is) ∙ c.root.ensures.same in
    let named : c.as_str.result.now ≡ functor_name h.names f =
    c.as_str.ensures ∙ c.atom_name-name.ensures.is ∙ ap (λ t. atom_at t c.functor_of-functor.result.name) c.names-2.ensures ∙ ap (λ k. atom_at h.names k.name) (c.functor_of-functor.ensures.is ∙ ap (λ t. functor_at t f) c.names.ensures) in
    sym (ap elements_of e) ∙ other_name h c.in-Str.p f c.block-f.result.1 c.as_str.result.now c.block-f.ensures.block named (sym c.eq.ensures ∙ c.if-eq.false) ∙ ap (λ t. ends (tail_at t)) e
