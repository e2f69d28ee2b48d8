use Rattle.std.proofs.Common.{◌≡◌, arith, reverse}
use Rattle.plstack.specs.Holding.{held}
use Rattle.plstack.specs.State.{goals_in}
use Rattle.plstack.proofs.Settling.{held-room, settled-stack, settles}
use Rattle.plstack.proofs.Stacks.{inside}
use Rattle.plstack.proofs.stack.Stack.settle.Goals as goal

pub commit-requires-clause-cells : goal.commit-requires-clause-cells
commit-requires-clause-cells c =
    let s = inside c.self.inside in
    let is : c.in-Some.left ≡ held (reverse s.frames) = rw c.deref.ensures.value at c.in-Some.ensures in
    rw is (held-room (goals_in s) s.env s.links s.saved (reverse s.frames) c.self.invariant.0.frames).cells

pub commit-requires-clause-slots : goal.commit-requires-clause-slots
commit-requires-clause-slots c =
    let s = inside c.self.inside in
    let is : c.in-Some.left ≡ held (reverse s.frames) = rw c.deref.ensures.value at c.in-Some.ensures in
    rw is (held-room (goals_in s) s.env s.links s.saved (reverse s.frames) c.self.invariant.0.frames).slots

pub overflow_add-left : goal.overflow_add-left
overflow_add-left c =
    let s = inside c.self.inside in
    let is : c.in-Some.left ≡ held (reverse s.frames) = rw c.deref.ensures.value at c.in-Some.ensures in
    let room = (held-room (goals_in s) s.env s.links s.saved (reverse s.frames) c.self.invariant.0.frames).saved in
    rw is (omega (arith, room, c.self.inside.saved.ok.0, c.self.ranges))

pub invariant_of-self : goal.invariant_of-self
invariant_of-self c =
    let s = inside c.self.inside in
    let is : c.in-Some.left ≡ held (reverse s.frames) = rw c.deref.ensures.value at c.in-Some.ensures in
    let older = rw (← c.self.view_is) at c.requires.older in
    let made = rw is at c.commit.ensures in
    rw (c.truncate.ensures.items, is) (settled-stack s c.self.inside.depth c.self.invariant c.args.since older c.commit.new.self c.heap.ensures.env made)

pub returns : goal.returns
returns c =
    let s = inside c.self.inside in
    let is : c.in-Some.left ≡ held (reverse s.frames) = rw c.deref.ensures.value at c.in-Some.ensures in
    let older = rw (← c.self.view_is) at c.requires.older in
    let made = rw is at c.commit.ensures in
    rw (← c.self.view_is) (rw (c.truncate.ensures.items, is) (settles s c.self.inside.depth c.self.invariant c.args.since older c.commit.new.self c.heap.ensures.env made))
