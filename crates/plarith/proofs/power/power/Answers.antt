use Rattle.std.proofs.Common.{◌≡◌, ap, sym, ◌∙◌, pos, w64, arith}
use Rattle.std.proofs.lemmas.Int.{ints, to_z-of_z}
use Rattle.plarith.specs.Operations.{power}
use Rattle.plarith.proofs.Powers.{power_of_one, power_of_zero, power_overflows}
use Rattle.plarith.proofs.power.power.Goals as goal

pub returns-then-x-eq1 : goal.returns-then-x-eq1
returns-then-x-eq1 c =
    let e : c.args.x ≡ pos 1 = omega (arith, ints) in
    sym (ap (λ x. power x c.args.y) e ∙ power_of_one c.args.y)

pub returns-then-x-eq0 : goal.returns-then-x-eq0
returns-then-x-eq0 c =
    let e : c.args.x ≡ pos 0 = omega (arith, ints) in
    sym (ap (λ x. power x c.args.y) e ∙ power_of_zero c.args.y (rw (to_z-of_z w64 c.args.y c.ranges.y) at c.if-y-lt64.false))

pub returns : goal.returns
returns c = sym (power_overflows c.args.x c.args.y c.if-x-eq0.false c.if-x-eq1.false c.if-x-eqminus1.false (rw (to_z-of_z w64 c.args.y c.ranges.y) at c.if-y-lt64.false))
