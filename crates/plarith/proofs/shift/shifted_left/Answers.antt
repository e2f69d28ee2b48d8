use Rattle.std.proofs.Common.{◌≡◌, ap, sym, ◌∙◌, pos, of_z, w64}
use Rattle.std.proofs.lemmas.Int.{to_z-of_z}
use Rattle.std.specs.Prelude.{unsigned_abs}
use Rattle.plarith.specs.Operations.{shifted_left}
use Rattle.plarith.proofs.Widths.{natural, at_least, below}
use Rattle.plarith.proofs.Shifts.{shifted_one, shift_overflows}
use Rattle.plarith.proofs.shift.shifted_left.Goals as goal
use Rattle.plarith.proofs.shift.shifted_left.Goals.{else-x-eqminus1-via-then-x-eqminus1+else-y-eq63, else-x-eqminus1-via-else-x-eqminus1}

pub returns-then-y-lt63 : goal.returns-then-y-lt63
returns-then-y-lt63 c =
    let x = c.args.x in
    let y = c.args.y in
    let same = to_z-of_z w64 y c.ranges.y in
    let is = natural y (rw same at c.if-y-lt0.false) in
    let few = below 63 y (rw same at c.if-y-lt0.false) (rw same at c.if-y-lt63.true) in
    let places : of_z w64 y ≡ unsigned_abs y = ap (of_z w64) is in
    let e = rw (places, shifted_one (unsigned_abs y) few, to_z-of_z w64 x c.ranges.x) at c.checked_mul.ensures in
    c.fitting.ensures _ e ∙ sym (ap (shifted_left x) is)

pub returns : goal.returns
returns c =
    let x = c.args.x in
    let y = c.args.y in
    let same = to_z-of_z w64 y c.ranges.y in
    let is = natural y (rw same at c.if-y-lt0.false) in
    let far = at_least 63 y (rw same at c.if-y-lt63.false) in
    sym (ap (shifted_left x) is ∙ shift_overflows x (unsigned_abs y) (λ e. c.if-x-eq0.false (ap (of_z w64) e)) far
    (elim c.else-x-eqminus1.branch [
      | else-x-eqminus1-via-then-x-eqminus1+else-y-eq63 w ↦ (λ e n. w.if-y-eq63.false (ap (of_z w64) (is ∙ ap pos n)))
      | else-x-eqminus1-via-else-x-eqminus1 w ↦ (λ e n. w.if-x-eqminus1.false (ap (of_z w64) e))
    ]))
