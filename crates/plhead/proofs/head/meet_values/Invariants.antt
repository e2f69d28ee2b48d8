use Rattle.std.proofs.Common.{◌≤◌, ◌++◌, length, take}
use Rattle.plenv.specs.Changes.{Keeps}
use Rattle.plenv.specs.Rows.{tree_at}
use Rattle.plhead.specs.Equations.{pairs}
use Rattle.plhead.specs.Progress.{Onward}
use Rattle.plhead.proofs.head.meet_values.Given as goal

abbrev pub invariant-loop-i : goal.invariant-loop-i
invariant-loop-i l = record {
  most : l.i ≤ length l.values;
  on : Onward l.initial.env l.env l.head.base l.nodes (tree_at l.initial.env.heap.names l.nodes) (l.initial.work.items ++ pairs l.head.row.at l.values) (l.work.items ++ pairs l.head.row.at (take l.i l.values));
  keeps : Keeps l.initial.env l.env;
}

abbrev pub decreases-loop-i : goal.decreases-loop-i
decreases-loop-i l = l.i
