use Rattle.std.proofs.Common.{◌≡◌, refl, ◌∙◌, sym, subst, arith}
use Rattle.plstack.specs.First.{Begins}
use Rattle.plstack.specs.Levels.{EmptyOrFits}
use Rattle.plstack.specs.State.{kinds_in}
use Rattle.plstack.proofs.Stacks.{inside}
use Rattle.plstack.proofs.Beginning.{nothing-left, next-less, run-there, run-goals-there, term-there, marker-there}
use Rattle.plstack.proofs.stack.Stack.first.Goals as goal

pub loop-step-init : goal.loop-step-init
loop-step-init c = rw (← c.self.view_is) (record { there = c.self.invariant.0.goals; same = refl })

pub returns-in-Some : goal.returns-in-Some
returns-in-Some c = subst (λ es. Begins c.args.self.now es c.first_of_run.result) c.loop-step.invariant.same c.first_of_run.ensures

pub first_link-requires : goal.first_link-requires
first_link-requires c =
    let there = rw (← c.self.view_is) at c.loop-step.invariant.there in
    rw c.deref.ensures.value there.there

pub returns-in_default-first_link : goal.returns-in_default-first_link
returns-in_default-first_link c =
    sym c.loop-step.invariant.same ∙ nothing-left c.args.self.now c.step_of.ensures.state c.loop-step.list c.loop-step.invariant.there c.in_default.ensures.none c.in_default-first_link.ensures.none

pub loop-step-smaller : goal.loop-step-smaller
loop-step-smaller c =
    let there = rw (← c.self.view_is) at c.loop-step.invariant.there in
    let first = rw c.deref.ensures.value at c.in-Some-first_link.ensures.some in
    let some : c.loop-step.list.rest ≡ 0 → ⊥ = λ none. omega (arith, none, first.0) in
    next-less (inside c.self.inside) c.self.invariant.0 c.loop-step.list there c.in-Some-first_link.link.now some first.1

pub loop-step-preserved : goal.loop-step-preserved
loop-step-preserved c =
    let there = rw (← c.self.view_is) at c.loop-step.invariant.there in
    let same = rw (← c.self.view_is) at c.loop-step.invariant.same in
    let none = rw (← c.self.view_is) at c.in_default.ensures.none in
    let first = rw c.deref.ensures.value at c.in-Some-first_link.ensures.some in
    let some : c.loop-step.list.rest ≡ 0 → ⊥ = λ none. omega (arith, none, first.0) in
    rw (← c.self.view_is) (record {
      there = run-there (inside c.self.inside) c.self.invariant.0 c.loop-step.list there c.in-Some-first_link.link.now some first.1 c.in-Clause.run' c.in-Clause.is;
      same = run-goals-there (inside c.self.inside) c.self.invariant.0 c.loop-step.list there c.in-Some-first_link.link.now some first.1 c.in-Clause.run' c.in-Clause.is none ∙ same;
    })

pub returns-in-Goal : goal.returns-in-Goal
returns-in-Goal c =
    let there = rw (← c.self.view_is) at c.loop-step.invariant.there in
    let same = rw (← c.self.view_is) at c.loop-step.invariant.same in
    let none = rw (← c.self.view_is) at c.in_default.ensures.none in
    let first = rw c.deref.ensures.value at c.in-Some-first_link.ensures.some in
    let some : c.loop-step.list.rest ≡ 0 → ⊥ = λ none. omega (arith, none, first.0) in
    rw (← c.self.view_is, c.alone-behind.ensures, ← same)
    (term-there (inside c.self.inside) c.self.invariant.0 c.loop-step.list there c.in-Some-first_link.link.now some first.1 c.in-Goal.level c.in-Goal.v c.in-Goal.is none (subst (EmptyOrFits (kinds_in (inside c.self.inside))) (sym same) c.self.invariant.0.fits))

pub returns-in-Marker : goal.returns-in-Marker
returns-in-Marker c =
    let there = rw (← c.self.view_is) at c.loop-step.invariant.there in
    let same = rw (← c.self.view_is) at c.loop-step.invariant.same in
    let none = rw (← c.self.view_is) at c.in_default.ensures.none in
    let first = rw c.deref.ensures.value at c.in-Some-first_link.ensures.some in
    let some : c.loop-step.list.rest ≡ 0 → ⊥ = λ none. omega (arith, none, first.0) in
    rw (← c.self.view_is, c.alone-behind.ensures, ← same)
    (marker-there (inside c.self.inside) c.self.invariant.0 c.loop-step.list there c.in-Some-first_link.link.now some first.1 c.in-Marker.kind c.in-Marker.level c.in-Marker.is none (subst (EmptyOrFits (kinds_in (inside c.self.inside))) (sym same) c.self.invariant.0.fits))

pub first_of_run-requires-clause-fits : goal.first_of_run-requires-clause-fits
first_of_run-requires-clause-fits c =
    let same = rw (← c.self.view_is) at c.loop-step.invariant.same in
    rw (← c.self.view_is) (subst (EmptyOrFits (kinds_in (inside c.self.inside))) (sym same) c.self.invariant.0.fits)
