use Rattle.plstack.proofs.Stacks.{empty-stack}
use Rattle.plstack.proofs.stack.Stack.new.Goals as goal

pub invariant_of-result : goal.invariant_of-result
invariant_of-result c = rw (c.new-2.ensures.items, c.new-4.ensures.items, c.new-5.ensures.items, c.new-6.ensures.items, c.alone.ensures) (empty-stack _ _ c.heap.ensures.env c.requires.names c.requires.none)
