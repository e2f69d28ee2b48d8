use Rattle.plstack.proofs.Stacks.{inside, counted}
use Rattle.plstack.proofs.Opening.{opens-plain}
use Rattle.plstack.proofs.stack.Stack.open_plain.Goals as goal

pub invariant_of-self-2 : goal.invariant_of-self-2
invariant_of-self-2 c = rw c.in_ok-depth.ensures.ok (counted 1 (inside c.self.inside) c.self.inside.depth c.count_up.new.frames.items (rw c.reserve.ensures.items at c.count_up.ensures.counts) c.self.invariant)

pub returns-clause-ok : goal.returns-clause-ok
returns-clause-ok c = rw (← c.self.view_is) (opens-plain (inside c.self.inside) c.count_up.new.frames.items (rw c.reserve.ensures.items at c.count_up.ensures.counts))
