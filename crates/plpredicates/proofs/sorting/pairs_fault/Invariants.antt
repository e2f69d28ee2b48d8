use Rattle.std.proofs.Common.{◌≡◌, map, drop}
use Rattle.plcells.specs.Store.{AreValues, value}
use Rattle.plbuiltin.specs.Sorting.{pairs_fault}
use Rattle.plpredicates.proofs.sorting.pairs_fault.Given as goal

abbrev pub invariant-loop-v : goal.invariant-loop-v
invariant-loop-v l = record {
  items : AreValues l.heap (drop l.v-index l.items);
  same : pairs_fault (map (value l.heap) l.items) ≡ pairs_fault (map (value l.heap) (drop l.v-index l.items));
}
