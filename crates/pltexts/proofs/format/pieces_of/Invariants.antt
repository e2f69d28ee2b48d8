use Rattle.std.proofs.Common.{◌≡◌, ◌++◌, false, map, drop}
use Rattle.plbuiltin.specs.Format.{pieces}
use Rattle.pltexts.specs.Format.{piece_as}
use Rattle.pltexts.proofs.format.pieces_of.Given as goal

abbrev pub invariant-loop-c : goal.invariant-loop-c
invariant-loop-c l = pieces false l.text ≡ map piece_as l.pieces.items ++ pieces l.escaped (drop l.c-index l.text)
