use Rattle.plcollect.proofs.Numbering.{IsNumbered}
use Rattle.plcollect.proofs.copy.number_all.Given as goal

abbrev pub invariant-loop-i : goal.invariant-loop-i
invariant-loop-i l = IsNumbered l.fn.nodes.items l.i l.seen l.nodes.items
