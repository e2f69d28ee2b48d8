use Rattle.std.proofs.Common.{◌≡◌, map, drop}
use Rattle.std.specs.List.{list_any}
use Rattle.plbuiltin.specs.Format.{is_amiss}
use Rattle.pltexts.specs.Format.{piece_as}
use Rattle.pltexts.proofs.format.any_amiss.Given as goal

abbrev pub invariant-loop-piece : goal.invariant-loop-piece
invariant-loop-piece l = list_any is_amiss (map piece_as l.pieces) ≡ list_any is_amiss (map piece_as (drop l.piece-index l.pieces))
