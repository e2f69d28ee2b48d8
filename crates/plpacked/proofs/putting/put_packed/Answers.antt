use Rattle.plpack.proofs.Holding.{some-packed}
use Rattle.plpacked.proofs.Whole.{whole-put, whole-again}
use Rattle.plpacked.proofs.putting.put_packed.Goals as goal

pub unreachable-requires : goal.unreachable-requires
unreachable-requires c =
    let none = rw c.in-Err-BadPack.field-0-is at c.in-Err-BadPack.ensures.none in
    some-packed c.args.term.now c.bytes.result.now c.bytes.ensures.canonical c.bytes.ensures.is none

pub returns-in-Ok-clause-ok : goal.returns-in-Ok-clause-ok
returns-in-Ok-clause-ok c = whole-put c.args.heap.now c.put_bytes.new.heap c.args.term.now c.bytes.result.now c.args.number c.in-Ok.put c.bytes.ensures.canonical c.bytes.ensures.is c.in-Ok.ensures.ok

pub returns-in-Ok-clause-again : goal.returns-in-Ok-clause-again
returns-in-Ok-clause-again c = whole-again c.args.heap.now c.put_bytes.new.heap c.args.term.now c.bytes.result.now c.args.number c.in-Ok.put c.bytes.ensures.canonical c.bytes.ensures.is c.in-Ok.ensures.ok
