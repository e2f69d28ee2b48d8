use Rattle.std.proofs.Common.{◌≡◌, ◌<◌, ◌≤◌, ◌+◌, length, reverse, take}
use Rattle.plstack.specs.Places.{depth_of}
use Rattle.plstack.proofs.cut.choice_at.Given as goal

abbrev pub invariant-loop-level : goal.invariant-loop-level
invariant-loop-level l = record {
  there : l.at ≤ length l.frames;
  depth : depth_of (reverse (take l.at l.frames)) ≡ l.below;
  above : l.level < depth_of (reverse (take (l.at + 1) l.frames));
}

abbrev pub decreases-loop-level : goal.decreases-loop-level
decreases-loop-level l = l.at
