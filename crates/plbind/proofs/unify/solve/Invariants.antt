use Rattle.plterm.specs.Tree.{Tree}
use Rattle.plcells.specs.Store.{frees}
use Rattle.plbind.specs.Unifying.{IsInside, Stands, KeepsAll}
use Rattle.plbind.proofs.unify.solve.Given as goal
use Rattle.plbind.proofs.Progressing.{Progress}

abbrev pub invariant-loop-x : goal.invariant-loop-x
invariant-loop-x l = record {
  inside : IsInside l.heap l.scratch.work.items;
  progress : (s t : Tree) → Stands l.initial.heap l.initial.scratch.work.items s t → Progress l.initial.heap l.heap s t l.scratch.work.items;
  keeps : KeepsAll l.initial.heap l.heap;
}

abbrev pub decreases-loop-x : goal.decreases-loop-x
decreases-loop-x l = frees l.heap.cells
