use Rattle.std.proofs.Common.{◌≡◌, ◌≤◌, ◌++◌, ◌-◌, drop, length}
use Rattle.pllex.specs.Quoted.{quoted_value}
use Rattle.pllex.specs.Named.{value_within}
use Rattle.pllex.proofs.value.value_bytes.Given as goal

abbrev pub invariant-loop-place : goal.invariant-loop-place
invariant-loop-place l =
    record { same : l.value.items ++ quoted_value l.quote l.start l.mode l.place (drop l.place l.text) ≡ value_within l.quote l.text l.start; within : l.place ≤ length l.text }

abbrev pub decreases-loop-place : goal.decreases-loop-place
decreases-loop-place l = length l.text - l.place
