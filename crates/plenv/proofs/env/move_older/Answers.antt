use Rattle.std.proofs.Common.{◌<◌, length, arith, get_or}
use Rattle.std.proofs.lemmas.Bool.{lt-ltb, le-ltb}
use Rattle.std.proofs.lemmas.List.{get_or_default}
use Rattle.std.proofs.lemmas.List.Filters.{FiltersInPlace-more_set, FiltersInPlace-more_no}
use Rattle.plenv.specs.declared.slot.Noted.{Noted}
use Rattle.plenv.proofs.env.move_older.Goals as goal
use Rattle.plenv.proofs.env.move_older.Goals.{then-set-slots, else-set-slots}

pub loop-i-preserved : goal.loop-i-preserved
loop-i-preserved c =
    let some : c.loop-i.i < length c.loop-i.noted = omega arith in
    let x : Noted = get_or c.loop-i.noted c.loop-i.i (record { slot = 0; number = 0 }) in
    let read = get_or_default c.loop-i.noted c.loop-i.i (record { slot = 0; number = 0 }) x some in
    elim c.if-set-slots.branch [
      | then-set-slots w ↦ rw (w.noted-is, w.kept-is) (FiltersInPlace-more_set c.loop-i.invariant some (lt-ltb x.slot c.args.slots w.if-set-slots.true) read)
      | else-set-slots w ↦ rw (w.noted-is, w.kept-is) (FiltersInPlace-more_no c.loop-i.invariant some (le-ltb x.slot c.args.slots w.if-set-slots.false) read)
    ]
