use Rattle.std.proofs.Common.{◌<◌, ◌+◌, ◌-◌, ◌/◌, length, arith}
use Rattle.plcells.proofs.Searching.{closed-none, closed-read}
use Rattle.plcells.proofs.Ids.{up-to}
use Rattle.plcells.proofs.heap.Heap.floor.Goals as goal

pub returns-then-le : goal.returns-then-le
returns-then-le c =
    let end = rw (← c.self.view_is) at c.requires in
    rw (← c.self.view_is) (λ n d numbered lt.
    let s = c.self.inside in
    let last : c.len-count.result - 1 < length s.closed.items = omega (arith, c.if-count-gt0.true, c.len-count.ensures, s.closed.ok.0) in
    let closed = closed-read _ s.closed.items (c.len-count.result - 1) c.index.result.now c.self.invariant.prefixes last c.index.ensures in
    closed-none _ c.self.invariant.heap c.args.x n end numbered c.index.result.now closed (up-to c.index.result.now c.args.x c.le.ensures c.if-le.true) d lt)

pub loop-low-preserved-then-le-2 : goal.loop-low-preserved-then-le-2
loop-low-preserved-then-le-2 c =
    rw (← c.self.view_is) (
    let s = c.self.inside in
    let l = c.loop-low in
    let lt : l.low + (l.high - l.low) / 2 < length s.closed.items = omega (arith, c.loop-low-test.true, l.invariant.within) in
    record {
      within = l.invariant.within;
      closed = closed-read _ s.closed.items (l.low + (l.high - l.low) / 2) c.index-in-loop-low.result.now c.self.invariant.prefixes lt c.index-in-loop-low.ensures;
      low = up-to c.index-in-loop-low.result.now c.args.x c.le-in-loop-low.ensures c.if-le-2.true;
    })

pub returns : goal.returns
returns c =
    let end = rw (← c.self.view_is) at c.requires in
    let closed = rw (← c.self.view_is) at c.loop-low.invariant.closed in
    rw (← c.self.view_is) (λ n d numbered lt. closed-none _ c.self.invariant.heap c.args.x n end numbered c.loop-low.floor closed c.loop-low.invariant.low d lt)
