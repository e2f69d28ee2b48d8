use Rattle.std.proofs.Common.{refl}
use Rattle.plstack.proofs.Stacks.{inside}
use Rattle.plstack.proofs.Lists.{state-linked}
use Rattle.plstack.proofs.stack.Stack.link.Goals as goal

pub invariant_of-self-2 : goal.invariant_of-self-2
invariant_of-self-2 c =
    let s = inside c.self.inside in
    let i = c.in_ok-list.ensures.ok in
    (state-linked s c.self.invariant.0 c.link_before.new.links.items i.more i.is (i.chain c.self.invariant.0.chain), c.self.invariant.1)

pub returns-clause-ok : goal.returns-clause-ok
returns-clause-ok c =
    let s = inside c.self.inside in
    let rest = rw (← c.self.view_is) at c.requires.rest in
    let within = rw (← c.self.view_is) at c.requires.inside in
    rw (← c.self.view_is) (c.in_ok-list.ensures.ok.adds s c.self.invariant.0 refl rest within)
