use Rattle.std.proofs.Common.{◌≡◌, arith, ap}
use Rattle.plstack.specs.State.{State, depth_in}
use Rattle.plstack.proofs.Stacks.{inside}
use Rattle.plstack.proofs.Leaving.{catcher-leaves, catcher-older, catcher-stack, catcher-within}
use Rattle.plstack.proofs.stack.Stack.empty_catcher.Goals as goal

pub invariant_of-self : goal.invariant_of-self
invariant_of-self c =
    let s : State = inside c.self.inside in
    let at = rw (← c.self.view_is) at c.requires.catcher in
    let level = rw (← c.self.view_is) at c.requires.level in
    let up = rw c.truncate.ensures.items at c.count_up.ensures.counts in
    catcher-stack s c.self.inside.depth c.self.invariant c.args.catcher.at c.args.catcher.inside c.args.catcher.marks at c.count_up.new.frames.items up level.0 c.args.list level.1 level.2

pub returns-clause-older : goal.returns-clause-older
returns-clause-older c =
    let s : State = inside c.self.inside in
    let at = rw (← c.self.view_is) at c.requires.catcher in
    let up = rw c.truncate.ensures.items at c.count_up.ensures.counts in
    catcher-older s c.self.inside.depth c.self.invariant c.args.catcher.at c.args.catcher.inside c.args.catcher.marks at c.count_up.new.frames.items up

pub returns-clause-within : goal.returns-clause-within
returns-clause-within c =
    let s : State = inside c.self.inside in
    let at = rw (← c.self.view_is) at c.requires.catcher in
    catcher-within s c.self.inside.depth c.self.invariant c.args.catcher.at c.args.catcher.inside c.args.catcher.marks at

pub returns-clause-leaves : goal.returns-clause-leaves
returns-clause-leaves c = λ level deep.
    let s : State = inside c.self.inside in
    let at = rw (← c.self.view_is) at c.requires.catcher in
    let first = rw (← c.self.view_is) at c.requires.level in
    let up = rw c.truncate.ensures.items at c.count_up.ensures.counts in
    let same : level ≡ first.0 = omega (arith, deep, first.2, ap depth_in c.self.view_is) in
    rw (← c.self.view_is, same) (catcher-leaves s c.self.inside.depth c.self.invariant c.args.catcher.at c.args.catcher.inside c.args.catcher.marks at c.count_up.new.frames.items up first.0 c.args.list first.1 first.2)
