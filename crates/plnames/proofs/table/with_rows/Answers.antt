use Rattle.std.proofs.Common.{◌<◌, length, refl, arith}
use Rattle.plnames.specs.Entries.{noted_row}
use Rattle.plnames.proofs.Entries.{put_more}
use Rattle.plnames.proofs.table.with_rows.Goals as goal

pub loop-name-preserved : goal.loop-name-preserved
loop-name-preserved c =
    let below : c.loop-name.name-index < length c.args.rows.now = omega arith in
    put_more noted_row c.args.rows.now c.loop-name.name-index _ c.args.kinds.entries c.loop-name.kinds.entries c.insert.new.self.entries _ _ below refl c.loop-name.invariant c.in_ok-insert.ensures.entries
