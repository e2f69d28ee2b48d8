use Rattle.std.proofs.Common.{arith, sym, ap, subst, inl, inr}
use Rattle.std.proofs.lemmas.List.{length-map}
use Rattle.plcells.specs.Store.{IsBlock}
use Rattle.plcells.specs.Skipping.{plain}
use Rattle.plcells.proofs.Values.{read-plain}
use Rattle.plcells.proofs.Searching.{block-at}
use Rattle.plcells.proofs.heap.Heap.block.Goals as goal

pub returns-in-Fun-clause-block : goal.returns-in-Fun-clause-block
returns-in-Fun-clause-block c =
    let within = rw (← c.self.view_is) at c.requires.within in
    rw (← c.self.view_is) (
    let cells = c.self.inside.cells.items in
    let here = read-plain cells c.args.p c.index.result.now (omega (arith, within, length-map cells plain)) (rw c.place.ensures.is at c.index.ensures) in
    subst (IsBlock _ c.args.p c.in-Fun.f) (ap (λ f. f.arity) (sym c.functor_of.ensures.is)) (block-at _ c.args.p c.in-Fun.f c.index.result.now c.self.invariant.heap within here (inl c.in-Fun.is)))

pub returns-in-Ground-clause-block : goal.returns-in-Ground-clause-block
returns-in-Ground-clause-block c =
    let within = rw (← c.self.view_is) at c.requires.within in
    rw (← c.self.view_is) (
    let cells = c.self.inside.cells.items in
    let here = read-plain cells c.args.p c.index.result.now (omega (arith, within, length-map cells plain)) (rw c.place.ensures.is at c.index.ensures) in
    subst (IsBlock _ c.args.p c.in-Ground.f) (ap (λ f. f.arity) (sym c.functor_of-in-Ground.ensures.is)) (block-at _ c.args.p c.in-Ground.f c.index.result.now c.self.invariant.heap within here (inr c.in-Ground.is)))
