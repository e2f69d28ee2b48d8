use Rattle.std.proofs.Common.{◌≡◌, ◌++◌}
use Rattle.std.specs.List.{flat_map}
use Rattle.plterm.specs.Reading.{spelling, AllFit}
use Rattle.plcells.specs.Store.{value}
use Rattle.plcells.specs.Walking.{AreArguments}
use Rattle.plcells.proofs.Taking.{left_terms, weigh_left}
use Rattle.plcells.proofs.heap.Heap.take_nodes.Given as goal

abbrev pub invariant-loop-c : goal.invariant-loop-c
invariant-loop-c l = record {
  arguments : AreArguments l.self l.stack.items;
  nodes : l.nodes.items ++ flat_map spelling (left_terms l.self l.stack.items) ≡ l.fn.nodes.items ++ spelling (value l.self l.fn.v);
  fit : AllFit (flat_map spelling (left_terms l.self l.stack.items)) → AllFit (spelling (value l.self l.fn.v));
}

abbrev pub decreases-loop-c : goal.decreases-loop-c
decreases-loop-c l = weigh_left l.self l.stack.items
