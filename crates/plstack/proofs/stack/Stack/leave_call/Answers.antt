use Rattle.std.proofs.Common.{sym}
use Rattle.plstack.proofs.Stacks.{inside}
use Rattle.plstack.proofs.Entering.{left-call, left-stack}
use Rattle.plstack.proofs.Ending.{left-walks}
use Rattle.plstack.proofs.stack.Stack.leave_call.Goals as goal
use Rattle.plstack.specs.State.{cases_of}

pub returns-clause-cases : goal.returns-clause-cases
unfolding cases_of
returns-clause-cases c = λ db x below.
    rw (← c.self.view_is) (left-call (inside c.self.inside) c.pop.new.self.items _ c.in-Some.ensures.items (rw (← c.self.view_is) at c.requires) db x below)

pub returns-clause-walks : goal.returns-clause-walks
returns-clause-walks c = rw (← c.self.view_is) (sym (left-walks (inside c.self.inside) c.pop.new.self.items _ c.in-Some.ensures.items (rw (← c.self.view_is) at c.requires)))

pub invariant_of-self : goal.invariant_of-self
invariant_of-self c =
    rw (c.alone-self-inside.ensures, c.down-self-inside.ensures) (left-stack (inside c.self.inside) c.self.inside.depth c.self.invariant c.pop.new.self.items _ c.in-Some.ensures.items (rw (← c.self.view_is) at c.requires))
