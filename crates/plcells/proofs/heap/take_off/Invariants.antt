use Rattle.std.proofs.Common.{◌≡◌, ◌≤◌, take, drop, length, vec_len}
use Rattle.plcells.specs.Store.{reset, AllBelow}
use Rattle.plcells.proofs.heap.take_off.Given as goal

abbrev pub invariant-loop-trail : goal.invariant-loop-trail
invariant-loop-trail l = record {
  room : l.keep ≤ length l.trail.items;
  below : AllBelow (length l.cells.items) l.trail.items;
  cells : reset l.cells.items (drop l.keep l.trail.items) ≡ reset l.initial.cells.items (drop l.keep l.initial.trail.items);
  trail : take l.keep l.trail.items ≡ take l.keep l.initial.trail.items;
}

abbrev pub decreases-loop-trail : goal.decreases-loop-trail
decreases-loop-trail l = vec_len l.trail
