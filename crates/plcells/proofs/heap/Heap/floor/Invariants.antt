use Rattle.std.proofs.Common.{◌≤◌, ◌-◌, length}
use Rattle.plcells.specs.Skipping.{IsClosed}
use Rattle.plcells.proofs.heap.Heap.floor.Given as goal

abbrev pub invariant-loop-low : goal.invariant-loop-low
invariant-loop-low l = record {
  within : l.high ≤ length l.self-inside.closed.items;
  closed : IsClosed l.self l.floor;
  low : l.floor ≤ l.x;
}

abbrev pub decreases-loop-low : goal.decreases-loop-low
decreases-loop-low l = l.high - l.low
