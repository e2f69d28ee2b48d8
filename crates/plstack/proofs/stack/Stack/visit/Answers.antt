use Rattle.plstack.proofs.Stacks.{inside}
use Rattle.plstack.proofs.Seeing.{own-same}
use Rattle.plstack.proofs.stack.Stack.visit.Goals as goal

pub returns-clause-own : goal.returns-clause-own
returns-clause-own c = λ db own same. rw (← c.self.view_is) (own-same db own (inside c.self.inside) c.self.invariant.0.seen (rw (← c.self.view_is) at same))
