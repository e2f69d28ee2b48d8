use Rattle.plenv.specs.Changes.{Keeps}
use Rattle.plenv.specs.Rows.{tree_at}
use Rattle.plhead.specs.Equations.{weigh}
use Rattle.plhead.specs.Progress.{Onward}
use Rattle.plhead.proofs.head.solve.Given as goal

abbrev pub invariant-loop-equation : goal.invariant-loop-equation
invariant-loop-equation l = record {
  on : Onward l.initial.env l.env l.base l.nodes (tree_at l.initial.env.heap.names l.nodes) l.initial.work.items l.work.items;
  keeps : Keeps l.initial.env l.env;
}

abbrev pub decreases-loop-equation : goal.decreases-loop-equation
decreases-loop-equation l = weigh (tree_at l.initial.env.heap.names l.nodes) l.work.items
