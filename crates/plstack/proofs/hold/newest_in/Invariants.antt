use Rattle.std.proofs.Common.{◌≡◌, ◌≤◌, length, reverse, take}
use Rattle.plstack.specs.Holding.{held}
use Rattle.plstack.proofs.hold.newest_in.Given as goal

abbrev pub invariant-loop-at : goal.invariant-loop-at
invariant-loop-at l = record {
  there : l.at ≤ length l.frames;
  older : held (reverse (take l.at l.frames)) ≡ held (reverse l.frames);
}

abbrev pub decreases-loop-at : goal.decreases-loop-at
decreases-loop-at l = l.at
