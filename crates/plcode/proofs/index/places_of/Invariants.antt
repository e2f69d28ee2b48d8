use Rattle.std.proofs.Common.{take}
use Rattle.plcode.specs.Index.{HasPlaces}
use Rattle.plcode.proofs.index.places_of.Given as goal

abbrev pub invariant-loop-place : goal.invariant-loop-place
invariant-loop-place l = HasPlaces l.places (take l.place l.clauses)
