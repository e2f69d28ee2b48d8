use Rattle.plpack.proofs.Numberings.{Packs}
use Rattle.plcells.specs.Store.{value}
use Rattle.plcells.specs.Walking.{AreArguments}
use Rattle.plcells.proofs.Taking.{left_terms, weigh_left}
use Rattle.plpacked.proofs.taking.bytes_of.Given as goal

abbrev pub invariant-loop-c : goal.invariant-loop-c
invariant-loop-c l = record {
  arguments : AreArguments l.heap l.stack.items;
  packs : Packs (value l.heap l.fn.v) l.out.items l.seen (left_terms l.heap l.stack.items);
}

abbrev pub decreases-loop-c : goal.decreases-loop-c
decreases-loop-c l = weigh_left l.heap l.stack.items
