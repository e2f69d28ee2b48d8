use Rattle.std.proofs.Common.{subst}
use Rattle.plstack.specs.State.{State}
use Rattle.plstack.specs.Walks.{IsWalking}
use Rattle.plstack.proofs.Stacks.{inside}
use Rattle.plstack.proofs.Walking.{gone-stack, gone-cases, gone-at}
use Rattle.plstack.proofs.stack.Stack.rewind_walk.Goals as goal

pub invariant_of-self : goal.invariant_of-self
invariant_of-self c =
    let s : State = inside c.self.inside in
    let at = c.in-Some.at in
    let w : IsWalking s at.point at.walk = rw (← c.self.view_is) at c.in-Some.ensures.some in
    rw (c.undo.ensures, c.truncate.ensures.items, c.truncate-2.ensures.items, c.alone-self-inside.ensures) (gone-stack s c.self.inside.depth c.self.invariant w.rest at.point at.walk w.top)

pub returns-clause-cases : goal.returns-clause-cases
returns-clause-cases c = λ db.
    let s : State = inside c.self.inside in
    let at = c.in-Some.at in
    let w : IsWalking s at.point at.walk = rw (← c.self.view_is) at c.in-Some.ensures.some in
    rw (← c.self.view_is) (rw (c.undo.ensures, c.truncate.ensures.items, c.truncate-2.ensures.items, c.alone-self-inside.ensures) (gone-cases s c.self.inside.depth c.self.invariant w.rest at.point at.walk w.top db))

pub returns-clause-at : goal.returns-clause-at
returns-clause-at c =
    let s : State = inside c.self.inside in
    let at = c.in-Some.at in
    let w : IsWalking s at.point at.walk = rw (← c.self.view_is) at c.in-Some.ensures.some in
    rw (c.undo.ensures, c.truncate.ensures.items, c.truncate-2.ensures.items, c.alone-self-inside.ensures) (gone-at s c.self.inside.depth c.self.invariant w.rest at.point at.walk w.top)
