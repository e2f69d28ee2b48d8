use Rattle.std.proofs.Common.{◌≡◌, min, max, ap, ◌∙◌}
use Rattle.pllinks.specs.Links.{slots_at}
use Rattle.plstack.proofs.Stacks.{inside}
use Rattle.plstack.proofs.Lowering.{lowered-stack, lowered-back, lowered-short}
use Rattle.plstack.proofs.stack.Stack.lower_slots.Goals as goal

pub invariant_of-self : goal.invariant_of-self
invariant_of-self c =
    let s = inside c.self.inside in
    let asked : c.slots_of-asked.result ≡ slots_at s.links s.goals.rest = rw c.deref.ensures.value at c.slots_of-asked.ensures in
    let place : c.lower-base.result ≡ min s.goals.run.base (max (slots_at s.links s.goals.rest) s.env.boundary) = c.lower-base.ensures.place ∙ ap (λ n. min s.goals.run.base (max n s.env.boundary)) asked in
    rw c.lower-base.ensures.moved (lowered-stack s c.self.inside.depth c.self.invariant c.lower-base.result place (rw c.lower-base.ensures.moved at c.heap.ensures.env))

pub returns-clause-back : goal.returns-clause-back
returns-clause-back c =
    let s = inside c.self.inside in
    let asked : c.slots_of-asked.result ≡ slots_at s.links s.goals.rest = rw c.deref.ensures.value at c.slots_of-asked.ensures in
    let place : c.lower-base.result ≡ min s.goals.run.base (max (slots_at s.links s.goals.rest) s.env.boundary) = c.lower-base.ensures.place ∙ ap (λ n. min s.goals.run.base (max n s.env.boundary)) asked in
    rw (← c.self.view_is) (rw c.lower-base.ensures.moved (lowered-back s c.self.inside.depth c.self.invariant c.lower-base.result place (rw c.lower-base.ensures.moved at c.heap.ensures.env)))

pub returns-clause-short : goal.returns-clause-short
returns-clause-short c =
    let s = inside c.self.inside in
    let asked : c.slots_of-asked.result ≡ slots_at s.links s.goals.rest = rw c.deref.ensures.value at c.slots_of-asked.ensures in
    let place : c.lower-base.result ≡ min s.goals.run.base (max (slots_at s.links s.goals.rest) s.env.boundary) = c.lower-base.ensures.place ∙ ap (λ n. min s.goals.run.base (max n s.env.boundary)) asked in
    rw c.lower-base.ensures.moved (lowered-short s c.self.inside.depth c.self.invariant c.lower-base.result place (rw c.lower-base.ensures.moved at c.heap.ensures.env) (rw (← c.self.view_is) at c.requires))
