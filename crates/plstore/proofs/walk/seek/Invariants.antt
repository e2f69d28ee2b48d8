use Rattle.std.proofs.Common.{length}
use Rattle.plstore.specs.Chains.{in_chain}
use Rattle.plstore.specs.Merged.{found}
use Rattle.plrecords.specs.Parts.{first_head, left}
use Rattle.plstore.proofs.Merging.{Seek}
use Rattle.plstore.proofs.walk.seek.Given as goal

abbrev pub invariant-loop-number : goal.invariant-loop-number
invariant-loop-number l =
    let p = l.sought.pred.now in
    let rs = l.tables.records.items in
    Seek l.part.front p l.sought.key.now l.sought.g rs (in_chain p l.merged.own) (in_chain p l.merged.any) l.at.own l.at.any (found l.sought rs l.part)

abbrev pub decreases-loop-number : goal.decreases-loop-number
decreases-loop-number l = left l.part.front (length l.tables.records.items) (first_head l.part.front l.at.own l.at.any)
