use Rattle.plpack.proofs.Holding.{unpacked-is, some-packed}
use Rattle.plpack.proofs.shared.Packed.term.Goals as goal

pub unreachable-requires : goal.unreachable-requires
unreachable-requires c =
    let none = rw c.in-Err-BadPack.field-0-is at c.in-Err-BadPack.ensures.none in
    some-packed c.args.self.now c.bytes.result.now c.bytes.ensures.canonical c.bytes.ensures.is none

pub returns-in-Ok : goal.returns-in-Ok
returns-in-Ok c =
    let e = c.in-Ok.ensures in
    unpacked-is c.args.self.now c.in-Ok.found.term c.bytes.result.now c.in-Ok.found.size c.bytes.ensures.canonical c.bytes.ensures.is (record { limits = e.limits; same = e.numbered }) e.bytes
