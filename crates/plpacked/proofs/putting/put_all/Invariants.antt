use Rattle.std.proofs.Common.{◌+◌, ◌*◌, length}
use Rattle.plpacked.proofs.Steps.{IsPutting}
use Rattle.plpacked.proofs.putting.put_all.Given as goal

abbrev pub invariant-steps : goal.invariant-steps
invariant-steps l = IsPutting l.bytes l.rest l.initial.heap l.heap l.number l.term

abbrev pub decreases-steps : goal.decreases-steps
decreases-steps l = 2 * length l.rest + length l.term.compounds.items
