use Rattle.std.proofs.Common.{◌≡◌, ◌∷◌, take}
use Rattle.std.specs.List.{flat_map}
use Rattle.plwrite.specs.Names.{escaped}
use Rattle.plwrite.proofs.names.quoted.Given as goal

abbrev pub invariant-loop-b : goal.invariant-loop-b
invariant-loop-b l = l.text.items ≡ 39 ∷ flat_map escaped (take l.b-index l.name)
