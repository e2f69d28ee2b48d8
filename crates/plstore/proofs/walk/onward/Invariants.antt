use Rattle.std.proofs.Common.{length}
use Rattle.plstore.specs.Chains.{in_chain}
use Rattle.plstore.specs.Merged.{MayStand}
use Rattle.plrecords.specs.Parts.{extent, left}
use Rattle.plstore.proofs.walk.onward.Given as goal

abbrev pub invariant-loop-at : goal.invariant-loop-at
invariant-loop-at l = MayStand l.part.front (in_chain l.sought.pred.now l.fn.chain) l.sought.g l.tables.records.items (extent l.part (length l.tables.records.items)) l.at

abbrev pub decreases-loop-at : goal.decreases-loop-at
decreases-loop-at l = left l.part.front (length l.tables.records.items) l.at
