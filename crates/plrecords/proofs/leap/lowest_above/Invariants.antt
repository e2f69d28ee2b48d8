use Rattle.plrecords.proofs.leap.lowest_above.Given as goal

abbrev pub invariant-loop-to : goal.invariant-loop-to
invariant-loop-to l = Unit {0}

abbrev pub decreases-loop-to : goal.decreases-loop-to
decreases-loop-to l = l.at
