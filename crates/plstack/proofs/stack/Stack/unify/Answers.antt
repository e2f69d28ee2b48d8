use Rattle.plstack.proofs.Stacks.{inside}
use Rattle.plstack.proofs.Growing.{unify-stack, unify-unifies}
use Rattle.plstack.proofs.stack.Stack.unify.Goals as goal

pub invariant_of-self : goal.invariant_of-self
invariant_of-self c = unify-stack (inside c.self.inside) c.self.inside.depth c.unify-fits.new.self c.args.a c.args.b c.heap.ensures.env c.self.invariant c.unify-fits.result c.unify-fits.ensures.yes c.unify-fits.ensures.no c.unify-fits.ensures.err

pub returns-clause-yes : goal.returns-clause-yes
returns-clause-yes c =
    rw (← c.self.view_is) (unify-unifies (inside c.self.inside) c.self.inside.depth c.unify-fits.new.self c.args.a c.args.b c.heap.ensures.env c.self.invariant c.unify-fits.result c.unify-fits.ensures.yes)
