use Rattle.std.proofs.Common.{w64}
use Rattle.std.proofs.lemmas.Int.{to_z-of_z}
use Rattle.plarith.proofs.Shifts.{shifted_least}
use Rattle.plarith.proofs.shift.shifted_right.Goals as goal

pub returns : goal.returns
returns c =
    let same_x = to_z-of_z w64 c.args.x c.ranges.x in
    let same_y = to_z-of_z w64 c.args.y c.ranges.y in
    rw same_x (shifted_least c.args.x c.args.y c.min.result c.ranges.x (rw same_y at c.if-y-lt0.false) (rw same_y at c.min.ensures.value))
