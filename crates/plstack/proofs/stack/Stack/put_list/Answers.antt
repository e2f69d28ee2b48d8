use Rattle.plstack.proofs.Stacks.{inside}
use Rattle.plstack.proofs.Growing.{if_ok, stack-env, extends-env}
use Rattle.plstack.proofs.stack.Stack.put_list.Goals as goal

pub invariant_of-self : goal.invariant_of-self
invariant_of-self c =
    let s = inside c.self.inside in
    stack-env s c.self.inside.depth c.put_list-put.new.env c.put_list-put.ensures.extends c.heap.ensures.env c.self.invariant

pub returns-clause-stays : goal.returns-clause-stays
returns-clause-stays c =
    let s = inside c.self.inside in
    rw (← c.self.view_is) (extends-env s c.self.inside.depth c.put_list-put.new.env c.put_list-put.ensures.extends c.heap.ensures.env c.self.invariant)

pub returns-clause-is : goal.returns-clause-is
returns-clause-is c = rw (← c.self.view_is) (if_ok _ _ c.put_list-put.result (λ v puts. puts.is) c.put_list-put.ensures.ok)
