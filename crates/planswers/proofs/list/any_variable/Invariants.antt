use Rattle.std.proofs.Common.{◌≡◌, map, drop}
use Rattle.std.specs.List.{list_any}
use Rattle.plcells.specs.Store.{AreValues, value}
use Rattle.plbuiltin.specs.Lists.{is_variable}
use Rattle.planswers.proofs.list.any_variable.Given as goal

abbrev pub invariant-loop-v : goal.invariant-loop-v
invariant-loop-v l = record {
  items : AreValues l.heap (drop l.v-index l.items);
  same : list_any is_variable (map (value l.heap) l.items) ≡ list_any is_variable (map (value l.heap) (drop l.v-index l.items));
}
