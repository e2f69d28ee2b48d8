use Rattle.plstack.specs.declared.frame.Resume.TheVariants as resumes
use Rattle.plstack.proofs.Returning.{at-frame}
use Rattle.plstack.proofs.Stacks.{inside}
use Rattle.plstack.proofs.Walking.{emptied-stack, emptied, emptied-older}
use Rattle.plstack.proofs.Ending.{moves-off}
use Rattle.plstack.proofs.stack.Stack.empty_walk.Goals as goal

pub invariant_of-self : goal.invariant_of-self
invariant_of-self c =
    let walking = rw (← c.self.view_is) at c.requires.2 in
    emptied-stack (inside c.self.inside) c.self.inside.depth c.self.invariant c.requires.0 c.requires.1 walking c.pop.new.self.items c.in-Some.field-0 c.in-Some.ensures.items c.count_up.new.frames.items c.count_up.ensures.counts

pub returns-clause-goes : goal.returns-clause-goes
returns-clause-goes c = λ p w is db.
    let walking = rw (← c.self.view_is) at is in
    rw (← c.self.view_is) (emptied (inside c.self.inside) c.self.inside.depth c.self.invariant p w walking c.pop.new.self.items c.in-Some.field-0 c.in-Some.ensures.items c.count_up.new.frames.items c.count_up.ensures.counts db)

pub returns-clause-within : goal.returns-clause-within
returns-clause-within c = λ p w is.
    let walking = rw (← c.self.view_is) at is in
    (at-frame (inside c.self.inside) c.self.inside.depth c.self.invariant walking.rest p (resumes.Walk w) walking.top).mark.within

pub returns-clause-older : goal.returns-clause-older
returns-clause-older c = λ p w is.
    let walking = rw (← c.self.view_is) at is in
    emptied-older (inside c.self.inside) c.self.inside.depth c.self.invariant p w walking c.pop.new.self.items c.in-Some.field-0 c.in-Some.ensures.items c.count_up.new.frames.items c.count_up.ensures.counts

pub returns-clause-moves : goal.returns-clause-moves
returns-clause-moves c = λ p w is.
    let walking = rw (← c.self.view_is) at is in
    rw (← c.self.view_is) (moves-off (inside c.self.inside) _ p w walking c.pop.new.self.items c.in-Some.field-0 c.in-Some.ensures.items c.count_up.ensures.counts)
