use Rattle.std.proofs.Common.{◌≡◌, ◌-◌, ◌+◌, ◌≤◌, arith, refl, reverse, take}
use Rattle.plstack.specs.Places.{depth_of}
use Rattle.plstack.specs.State.{State}
use Rattle.plstack.proofs.Cutting.{depth-under}
use Rattle.plstack.proofs.Emptying.{emptied-stack, empties-from}
use Rattle.plstack.proofs.Stacks.{inside}
use Rattle.plstack.proofs.stack.Stack.empty_from.Goals as goal

pub cases_above-requires : goal.cases_above-requires
cases_above-requires c =
    let s : State = inside c.self.inside in
    let there = rw (← c.self.view_is) at c.requires.at in
    let under = rw (← c.self.view_is) at c.requires.below in
    omega (arith, depth-under s.frames c.args.frame.at there, under, c.self.invariant.1, c.in_ok-depth.ensures.ok)

pub empty_frames-requires-clause-some : goal.empty_frames-requires-clause-some
empty_frames-requires-clause-some c =
    let s : State = inside c.self.inside in
    let there = rw (← c.self.view_is) at c.requires.at in
    let under = rw (← c.self.view_is) at c.requires.below in
    omega (arith, c.cases_above.ensures, c.in_ok-depth.ensures.ok, depth-under s.frames c.args.frame.at there, under, c.self.invariant.1)

pub invariant_of-self : goal.invariant_of-self
invariant_of-self c =
    let s : State = inside c.self.inside in
    let there = rw (← c.self.view_is) at c.requires.at in
    let under = rw (← c.self.view_is) at c.requires.below in
    let none = rw (← c.self.view_is) at c.requires.none in
    let n = c.cases_above.result in
    let deep = depth-under s.frames c.args.frame.at there in
    let many : depth_of (reverse s.frames) ≤ n + depth_of (reverse (take c.args.frame.at s.frames)) = omega (arith, c.cases_above.ensures, c.in_ok-depth.ensures.ok, deep, under, c.self.invariant.1) in
    let e = emptied-stack s c.self.inside.depth c.self.invariant c.args.frame.at n there many c.empty_frames.new.frames.items c.empty_frames.ensures none in
    (e.0, omega (arith, e.1, c.cases_above.ensures, c.in_ok-depth.ensures.ok, deep, under, c.self.invariant.1))

pub returns-clause-ok : goal.returns-clause-ok
returns-clause-ok c =
    let s : State = inside c.self.inside in
    let there = rw (← c.self.view_is) at c.requires.at in
    let under = rw (← c.self.view_is) at c.requires.below in
    let n = c.cases_above.result in
    let deep = depth-under s.frames c.args.frame.at there in
    let many : depth_of (reverse s.frames) ≤ n + depth_of (reverse (take c.args.frame.at s.frames)) = omega (arith, c.cases_above.ensures, c.in_ok-depth.ensures.ok, deep, under, c.self.invariant.1) in
    let count : n ≡ depth_of (reverse s.frames) - c.args.frame.below + 1 = omega (arith, c.cases_above.ensures, c.in_ok-depth.ensures.ok, deep, under, c.self.invariant.1) in
    rw (← c.self.view_is, ← count) (empties-from s c.self.inside.depth c.self.invariant c.args.frame.at n there many c.empty_frames.new.frames.items c.empty_frames.ensures _ refl refl refl refl refl)
