use Rattle.std.proofs.Common.{◌≡◌, Ok, map, drop}
use Rattle.plcells.specs.Store.{AreValues, value}
use Rattle.plbuiltin.specs.Format.{formatted, joined}
use Rattle.pltexts.specs.Format.{piece_as}
use Rattle.pltexts.proofs.format.formatted.Given as goal

abbrev pub invariant-loop-piece : goal.invariant-loop-piece
invariant-loop-piece l =
    let of = formatted l.settings in
    record {
      values : AreValues l.heap l.left;
      so_far : of (map piece_as l.call.pieces.items) (map (value l.heap) l.call.values.items) ≡ joined (Ok l.text.items) (of (map piece_as (drop l.piece-index l.call.pieces.items)) (map (value l.heap) l.left));
    }
