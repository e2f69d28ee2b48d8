use Rattle.plstack.specs.declared.frame.Resume.TheVariants as resumes
use Rattle.plstack.specs.State.{State}
use Rattle.plstack.specs.StaticCalls.{IsCalling}
use Rattle.plstack.proofs.Stacks.{inside}
use Rattle.plstack.proofs.Rewinding.{rewound-stack, rewound-cases, at-call}
use Rattle.plstack.proofs.stack.Stack.rewind_call.Goals as goal

pub invariant_of-self : goal.invariant_of-self
invariant_of-self c =
    let s : State = inside c.self.inside in
    let at = c.in-Some.at in
    let w : IsCalling s at.point at.call = rw (← c.self.view_is) at c.in-Some.ensures.some in
    rw (c.undo.ensures, c.truncate.ensures.items, c.truncate-2.ensures.items, c.alone-self-inside.ensures) (rewound-stack s c.self.inside.depth c.self.invariant w.rest at.point (resumes.Clauses at.call) w.top (λ i. i))

pub returns-clause-cases : goal.returns-clause-cases
returns-clause-cases c = λ db.
    let s : State = inside c.self.inside in
    let at = c.in-Some.at in
    let w : IsCalling s at.point at.call = rw (← c.self.view_is) at c.in-Some.ensures.some in
    rw (← c.self.view_is) (rw (c.undo.ensures, c.truncate.ensures.items, c.truncate-2.ensures.items, c.alone-self-inside.ensures) (rewound-cases s c.self.inside.depth c.self.invariant w.rest at.point (resumes.Clauses at.call) w.top db))

pub returns-clause-at : goal.returns-clause-at
returns-clause-at c =
    let s : State = inside c.self.inside in
    let at = c.in-Some.at in
    let w : IsCalling s at.point at.call = rw (← c.self.view_is) at c.in-Some.ensures.some in
    rw (c.undo.ensures, c.truncate.ensures.items, c.truncate-2.ensures.items, c.alone-self-inside.ensures) (at-call s c.self.inside.depth c.self.invariant w.rest at.point at.call w.top)
