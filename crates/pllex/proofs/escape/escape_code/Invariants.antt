use Rattle.std.proofs.Common.{◌≡◌, ◌≤◌, ◌-◌, drop, length}
use Rattle.pllex.specs.Escapes.{escape_code}
use Rattle.pllex.specs.declared.escape.Escape.TheVariants.{Begins}
use Rattle.pllex.proofs.escape.escape_code.Given as goal

abbrev pub invariant-loop-place : goal.invariant-loop-place
invariant-loop-place l =
    record { same : escape_code l.escape l.place (drop l.place l.text) ≡ escape_code Begins l.from (drop l.from l.text); behind : l.from ≤ l.place; within : l.place ≤ length l.text }

abbrev pub decreases-loop-place : goal.decreases-loop-place
decreases-loop-place l = length l.text - l.place
