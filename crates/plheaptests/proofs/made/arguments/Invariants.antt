use Rattle.plcells.specs.Store.{AreValues}
use Rattle.plheaptests.proofs.made.arguments.Given as goal

abbrev pub invariant-loop-i : goal.invariant-loop-i
invariant-loop-i l = AreValues l.heap l.args.items
