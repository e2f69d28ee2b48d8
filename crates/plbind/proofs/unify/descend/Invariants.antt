use Rattle.plbind.specs.Unifying.{IsInside}
use Rattle.plbind.proofs.unify.descend.Given as goal
use Rattle.plbind.proofs.Work.{Equal, weigh_pairs}

abbrev pub invariant-loop-pair : goal.invariant-loop-pair
invariant-loop-pair l = record {
  inside : IsInside l.heap l.work.items;
  same : Equal l.heap l.initial.work.items l.work.items;
}

abbrev pub decreases-loop-pair : goal.decreases-loop-pair
decreases-loop-pair l = weigh_pairs l.heap l.work.items
