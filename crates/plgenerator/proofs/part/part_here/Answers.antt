use Rattle.std.proofs.Common.{arith}
use Rattle.std.specs.Str.{chars}
use Rattle.plgenerator.proofs.Offsets.{chars-le}
use Rattle.plgenerator.proofs.Beside.{none-begins, here-left, here-fits, none-here, none-here-if}
use Rattle.plgenerator.proofs.part.part_here.Goals as goal

pub first_beside-requires : goal.first_beside-requires
first_beside-requires c = omega (arith, c.requires.part.all, c.requires.name, chars-le c.args.text.now c.utf8.text)

pub returns-then-may_begin-clause-left : goal.returns-then-may_begin-clause-left
returns-then-may_begin-clause-left c = λ us. here-left (chars c.args.text.now) us c.args.part c.first_beside.result c.first_beside.ensures.same c.first_beside.ensures.later

pub returns-then-may_begin-clause-some : goal.returns-then-may_begin-clause-some
returns-then-may_begin-clause-some c = λ us w.
    let cs = chars c.args.text.now in
    here-fits cs us c.args.part c.first_beside.result c.first_beside.ensures.same (c.first_beside.ensures.fits us w cs c.requires.part)

pub returns-then-may_begin-clause-none : goal.returns-then-may_begin-clause-none
returns-then-may_begin-clause-none c = λ us w.
    let cs = chars c.args.text.now in
    none-here-if cs us c.args.part c.first_beside.result (c.first_beside.ensures.none us w cs c.requires.part)

pub returns-else-may_begin-clause-none : goal.returns-else-may_begin-clause-none
returns-else-may_begin-clause-none c = λ us w.
    let cs = chars c.args.text.now in
    let p = c.args.part in
    none-here cs us p (none-begins cs us p.offset.characters p.length p.after (c.may_begin.ensures c.if-may_begin.false us w))
