use Rattle.std.proofs.Common.{◌≡◌, max, ap, ◌∙◌}
use Rattle.pllinks.specs.Links.{slots_at}
use Rattle.plstack.proofs.Stacks.{inside}
use Rattle.plstack.proofs.Releasing.{released-stack, released-back, released-short}
use Rattle.plstack.proofs.stack.Stack.give_back_slots.Goals as goal

pub invariant_of-self : goal.invariant_of-self
invariant_of-self c =
    let s = inside c.self.inside in
    let asked : c.slots_of-asked.result ≡ slots_at s.links s.goals.rest = rw c.deref.ensures.value at c.slots_of-asked.ensures in
    let base : c.max.result ≡ max s.goals.run.«end» (slots_at s.links s.goals.rest) = c.max.ensures ∙ ap (max s.goals.run.«end») asked in
    rw c.release.ensures (released-stack s c.self.inside.depth c.self.invariant c.max.result base (rw c.release.ensures at c.heap.ensures.env))

pub returns-clause-back : goal.returns-clause-back
returns-clause-back c =
    let s = inside c.self.inside in
    let asked : c.slots_of-asked.result ≡ slots_at s.links s.goals.rest = rw c.deref.ensures.value at c.slots_of-asked.ensures in
    let base : c.max.result ≡ max s.goals.run.«end» (slots_at s.links s.goals.rest) = c.max.ensures ∙ ap (max s.goals.run.«end») asked in
    rw (← c.self.view_is) (rw c.release.ensures (released-back s c.self.inside.depth c.self.invariant c.max.result base (rw c.release.ensures at c.heap.ensures.env)))

pub returns-clause-short : goal.returns-clause-short
returns-clause-short c =
    let s = inside c.self.inside in
    let asked : c.slots_of-asked.result ≡ slots_at s.links s.goals.rest = rw c.deref.ensures.value at c.slots_of-asked.ensures in
    let base : c.max.result ≡ max s.goals.run.«end» (slots_at s.links s.goals.rest) = c.max.ensures ∙ ap (max s.goals.run.«end») asked in
    rw c.release.ensures (released-short s c.self.inside.depth c.self.invariant c.max.result base (rw c.release.ensures at c.heap.ensures.env))
