use Rattle.std.proofs.Common.{◌≡◌, ◌≤◌, arith}
use Rattle.std.proofs.Math.Nat.{le-max_left, le-max_right}
use Rattle.plstack.proofs.Stacks.{inside}
use Rattle.plstack.proofs.Giving.{held_links, above-stack, above-back}
use Rattle.plstack.proofs.stack.Stack.give_back_above.Goals as goal

pub invariant_of-self : goal.invariant_of-self
invariant_of-self c =
    let s = inside c.self.inside in
    let floor : c.args.floor ≡ held_links s = rw (← c.self.view_is) at c.requires in
    let k = c.max-keep.result in
    let held : held_links s ≤ k = rw (c.max-keep.ensures, ← floor) (le-max_right c.extent.result c.args.floor) in
    let visited : s.goals.rest ≤ k = rw (c.max-keep.ensures, ← c.extent.ensures) (le-max_left c.extent.result c.args.floor) in
    rw c.truncate.ensures.items (above-stack s c.self.inside.depth c.self.invariant k (omega (arith, c.if-keep-len.true, c.len.ensures)) held visited)

pub returns-then-keep-len : goal.returns-then-keep-len
returns-then-keep-len c =
    let s = inside c.self.inside in
    let floor : c.args.floor ≡ held_links s = rw (← c.self.view_is) at c.requires in
    let k = c.max-keep.result in
    let held : held_links s ≤ k = rw (c.max-keep.ensures, ← floor) (le-max_right c.extent.result c.args.floor) in
    let visited : s.goals.rest ≤ k = rw (c.max-keep.ensures, ← c.extent.ensures) (le-max_left c.extent.result c.args.floor) in
    rw (← c.self.view_is) (rw c.truncate.ensures.items (above-back s c.self.inside.depth c.self.invariant k (omega (arith, c.if-keep-len.true, c.len.ensures)) held visited))
