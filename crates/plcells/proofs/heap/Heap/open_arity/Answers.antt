use Rattle.std.proofs.Common.{◌∙◌, arith, sym, ap, subst}
use Rattle.std.proofs.lemmas.List.{length-map}
use Rattle.plcells.specs.Store.{IsHead, IsGround, HasTerms}
use Rattle.plcells.specs.Skipping.{plain}
use Rattle.plcells.proofs.Values.{read-plain}
use Rattle.plcells.proofs.Searching.{has-terms, ground-head, ground-none, plain-fun, some-same}
use Rattle.plcells.proofs.heap.Heap.open_arity.Goals as goal

pub returns-in-Fun-clause-some : goal.returns-in-Fun-clause-some
returns-in-Fun-clause-some c =
    let within = rw (← c.self.view_is) at c.requires.within in
    rw (← c.self.view_is) (λ k e.
    let cells = c.self.inside.cells.items in
    let here = read-plain cells c.args.p c.index.result.now (omega (arith, within, length-map cells plain)) (rw c.place.ensures.is at c.index.ensures) in
    let same = has-terms _ c.args.p c.in-Fun.f c.self.invariant.heap within (here ∙ ap plain c.in-Fun.is) in
    subst (HasTerms _ c.args.p) (ap (λ f. f.arity) (sym c.functor_of.ensures.is) ∙ some-same c.functor_of.result.arity k e) same)

pub returns-in_default : goal.returns-in_default
returns-in_default c =
    let within = rw (← c.self.view_is) at c.requires.within in
    let head = rw (← c.self.view_is) at c.requires.head in
    rw (← c.self.view_is) (record {
      some = λ k e. absurd (grind (arith, e));
      none = λ e n.
          let cells = c.self.inside.cells.items in
          let here = read-plain cells c.args.p c.index.result.now (omega (arith, within, length-map cells plain)) (rw c.place.ensures.is at c.index.ensures) in
          let ground = ground-head (plain c.index.result.now) (subst IsHead here head) (λ f e. c.in_default.not-Fun f (plain-fun c.index.result.now f e)) in
          ground-none _ c.self.invariant.heap n c.args.p within (subst IsGround (sym here) ground);
    })
