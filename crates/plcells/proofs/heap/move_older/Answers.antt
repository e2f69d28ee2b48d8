use Rattle.std.proofs.Common.{◌<◌, length, arith}
use Rattle.std.proofs.lemmas.Bool.{lt-ltb, le-ltb}
use Rattle.std.proofs.lemmas.List.Filters.{FiltersInPlace-more_set, FiltersInPlace-more_no}
use Rattle.plcells.proofs.heap.move_older.Goals as goal
use Rattle.plcells.proofs.heap.move_older.Goals.{then-place-cells, else-place-cells}

pub loop-i-preserved : goal.loop-i-preserved
loop-i-preserved c =
    let some : c.loop-i.i < length c.loop-i.trail = omega arith in
    let x = c.index-trail-i.result in
    elim c.if-place-cells.branch [
      | then-place-cells w ↦ rw (w.trail-is, w.kept-is) (FiltersInPlace-more_set c.loop-i.invariant some (lt-ltb x.cell c.args.cells (rw c.place.ensures.is at w.if-place-cells.true)) c.index-trail-i.is)
      | else-place-cells w ↦ rw (w.trail-is, w.kept-is) (FiltersInPlace-more_no c.loop-i.invariant some (le-ltb x.cell c.args.cells (rw c.place.ensures.is at w.if-place-cells.false)) c.index-trail-i.is)
    ]
