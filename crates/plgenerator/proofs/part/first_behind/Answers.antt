use Rattle.std.proofs.Common.{◌+◌, ◌-◌, arith}
use Rattle.std.specs.Str.{chars}
use Rattle.plgenerator.proofs.Offsets.{chars-le}
use Rattle.plgenerator.proofs.Beside.{behind-misses, behind-from}
use Rattle.plgenerator.proofs.part.first_behind.Goals as goal

pub returns-then-is_passed-clause-none : goal.returns-then-is_passed-clause-none
returns-then-is_passed-clause-none c = λ us w.
    let p = c.args.part in
    behind-misses (chars c.args.text.now) us p.offset.characters (p.length + p.after) (λ b l r lt. c.is_passed.ensures c.if-is_passed.true us w (chars c.args.text.now) b l r lt)

pub overflow_cast-result : goal.overflow_cast-result
overflow_cast-result c = omega (arith, c.from.ensures, c.from-2.ensures, c.requires.part.all, c.requires.name, chars-le c.args.text.now c.utf8.text)

pub returns-clause-some : goal.returns-clause-some
returns-clause-some c = λ us.
    let p = c.args.part in
    behind-from (chars c.args.text.now) us p.offset.characters (p.length + p.after) c.next_offset.result.characters (c.from.result + c.from-2.result - 1) (omega (arith, c.from.ensures, c.from-2.ensures, c.if-room-eq0.false)) c.next_offset.ensures.is
