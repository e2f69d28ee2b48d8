use Rattle.std.proofs.Common.{◌≤◌, length}
use Rattle.plcollect.specs.Copies.{copies_of}
use Rattle.plcollect.proofs.Listing.{IsPart}
use Rattle.plcollect.proofs.list.put_copies.Given as goal

abbrev pub invariant-loop-at : goal.invariant-loop-at
invariant-loop-at l = record {
  within : l.at ≤ length l.held;
  part : IsPart l.fn.env l.env l.values.items l.list (copies_of l.nodes l.held) l.at l.before;
}

abbrev pub decreases-loop-at : goal.decreases-loop-at
decreases-loop-at l = l.at
