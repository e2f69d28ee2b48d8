use Rattle.std.proofs.Common.{length}
use Rattle.plpack.proofs.Wholes.{Unpacks}
use Rattle.plpack.proofs.unpacking.unpack.Given as goal

abbrev pub invariant-items : goal.invariant-items
invariant-items l = Unpacks l.bytes l.nodes.items l.missing l.seen l.rest

abbrev pub decreases-items : goal.decreases-items
decreases-items l = length l.rest
