use Rattle.std.proofs.Common.{length}
use Rattle.plevent.specs.Alive.{is_of}
use Rattle.plstore.specs.Merged.{found}
use Rattle.plrecords.specs.Parts.{left}
use Rattle.plstore.proofs.Merging.{Seek}
use Rattle.plstore.proofs.walk.seek_any.Given as goal

abbrev pub invariant-loop-at : goal.invariant-loop-at
invariant-loop-at l =
    let p = l.sought.pred.now in
    let rs = l.tables.records.items in
    Seek l.fn.part.front p l.sought.key.now l.sought.g rs (is_of p) (is_of p) l.at l.at (found l.sought rs l.fn.part)

abbrev pub decreases-loop-at : goal.decreases-loop-at
decreases-loop-at l = left l.fn.part.front (length l.tables.records.items) l.at
