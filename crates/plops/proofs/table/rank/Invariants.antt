use Rattle.std.proofs.Common.{◌-◌, ◌≤◌, length}
use Rattle.plops.specs.Ranks.{rank}
use Rattle.plops.proofs.table.rank.Given as goal

abbrev pub invariant-loop-low : goal.invariant-loop-low
invariant-loop-low l = record { above : l.low ≤ rank l.name l.entries; below : rank l.name l.entries ≤ l.high; within : l.high ≤ length l.entries }

abbrev pub decreases-loop-low : goal.decreases-loop-low
decreases-loop-low l = l.high - l.low
