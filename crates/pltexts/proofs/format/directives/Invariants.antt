use Rattle.std.proofs.Common.{◌≡◌, ◌≤◌, ◌+◌, map, drop}
use Rattle.std.specs.Prelude.{count_by}
use Rattle.plbuiltin.specs.Format.{takes_one}
use Rattle.pltexts.specs.Format.{piece_as}
use Rattle.pltexts.proofs.format.directives.Given as goal

abbrev pub invariant-loop-piece : goal.invariant-loop-piece
invariant-loop-piece l = record {
  few : l.count ≤ l.piece-index;
  so_far : count_by takes_one (map piece_as l.pieces) ≡ l.count + count_by takes_one (map piece_as (drop l.piece-index l.pieces));
}
