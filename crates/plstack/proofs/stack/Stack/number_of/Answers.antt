use Rattle.plstack.proofs.Stacks.{inside}
use Rattle.plstack.proofs.Lists.{numbered, numbered-state}
use Rattle.plstack.proofs.stack.Stack.number_of.Goals as goal

pub invariant_of-self-2 : goal.invariant_of-self-2
invariant_of-self-2 c =
    let list = rw (← c.self.view_is) at c.requires in
    (numbered-state (inside c.self.inside) c.self.invariant.0 c.number_of.new.links.items c.args.list.now c.in_ok-number.number list c.in_ok-number.ensures.ok, c.self.invariant.1)

pub returns-clause-ok : goal.returns-clause-ok
returns-clause-ok c =
    let list = rw (← c.self.view_is) at c.requires in
    rw (← c.self.view_is) (numbered (inside c.self.inside) c.self.invariant.0 c.number_of.new.links.items c.args.list.now c.in_ok-number.number list c.in_ok-number.ensures.ok)
