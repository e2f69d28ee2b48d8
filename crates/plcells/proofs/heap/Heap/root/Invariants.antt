use Rattle.std.proofs.Common.{◌≡◌, map}
use Rattle.plcells.specs.Store.{IsValue, value}
use Rattle.plcells.specs.Skipping.{plain}
use Rattle.plcells.proofs.Values.{distance}
use Rattle.plcells.proofs.heap.Heap.root.Given as goal

abbrev pub invariant-loop-w : goal.invariant-loop-w
invariant-loop-w l = record {
  fits : IsValue l.self l.w;
  same : value l.self l.w ≡ value l.self l.fn.v;
}

abbrev pub decreases-loop-w : goal.decreases-loop-w
decreases-loop-w l = distance (map plain l.self-inside.cells.items) l.w
