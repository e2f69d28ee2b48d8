use Rattle.std.proofs.Common.{arith, ◌∙◌, ap}
use Rattle.std.specs.Str.{chars}
use Rattle.plgenerator.specs.Turns.{others}
use Rattle.plgenerator.specs.Fitting.{fitting_by}
use Rattle.plgenerator.proofs.Offsets.{chars-le}
use Rattle.plgenerator.proofs.Beside.{behind-left, last-beside, others-fit}
use Rattle.plgenerator.proofs.part.part_after.Goals as goal

pub overflow_add-result : goal.overflow_add-result
overflow_add-result c = omega (arith, c.requires.part.all, c.requires.name, chars-le c.args.text.now c.utf8.text, c.may_be_longer.ensures.some c.if-may_be_longer.true)

pub returns-clause-fewer : goal.returns-clause-fewer
returns-clause-fewer c = λ us. behind-left (chars c.args.text.now) us c.args.part c.first_behind.result (c.first_behind.ensures.some us)

pub returns-clause-is : goal.returns-clause-is
returns-clause-is c = λ us w.
    let cs = chars c.args.text.now in
    let p = c.args.part in
    last-beside cs us p.offset.characters p.length p.after (others cs us p) (c.may_be_longer.ensures.none c.if-may_be_longer.false us w cs c.requires.part)
    ∙ ap (fitting_by _ _) (others-fit cs us p c.first_behind.result (c.first_behind.ensures.some us) (c.first_behind.ensures.none us w))
