use Rattle.plstack.proofs.Stacks.{inside}
use Rattle.plstack.proofs.Lists.{run-before, numbered-state}
use Rattle.plstack.proofs.stack.Stack.before.Goals as goal

pub invariant_of-self-2 : goal.invariant_of-self-2
invariant_of-self-2 c =
    let rest = rw (← c.self.view_is) at c.requires.rest in
    (numbered-state (inside c.self.inside) c.self.invariant.0 c.number_of.new.links.items c.args.rest c.in_ok-behind.behind rest c.in_ok-behind.ensures.ok, c.self.invariant.1)

pub returns-clause-ok : goal.returns-clause-ok
returns-clause-ok c =
    let rest = rw (← c.self.view_is) at c.requires.rest in
    let within = rw (← c.self.view_is) at c.requires.inside in
    rw (← c.self.view_is) (run-before (inside c.self.inside) c.self.invariant.0 c.number_of.new.links.items c.args.rest c.in_ok-behind.behind rest c.in_ok-behind.ensures.ok c.args.run within)
