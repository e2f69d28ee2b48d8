use Rattle.plgoals.specs.Extended.{AreArguments}
use Rattle.plgoals.proofs.callable.read_arguments.Given as goal

abbrev pub invariant-loop-i : goal.invariant-loop-i
invariant-loop-i l = AreArguments l.heap l.p l.i l.args.items
