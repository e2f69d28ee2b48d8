use Rattle.plstack.proofs.Stacks.{inside, sees-stack}
use Rattle.plstack.proofs.stack.Stack.sees.Goals as goal

pub invariant_of-self : goal.invariant_of-self
invariant_of-self c = sees-stack (inside c.self.inside) c.self.inside.depth c.args.view (rw (← c.self.view_is) at c.requires) c.self.invariant
