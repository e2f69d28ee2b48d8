use Rattle.std.proofs.Common.{◌^◌, arith}
use Rattle.std.specs.Int.{w16}
use Rattle.plpack.proofs.Widths.{wide16, number_at_front}
use Rattle.plpack.proofs.parts.short_of.Goals as goal

pub returns : goal.returns
returns c =
    let h = c.in_ok-front.ensures.cases in
    number_at_front w16 (2 ^ 16) wide16 c.args.bytes.now c.in_ok-front.front.now c.in_ok-front.after.now c.from_be_bytes.result (λ i. omega (arith, c.type_inv.bytes i)) (omega (arith, h.2)) h.0 h.1 (omega arith) c.from_be_bytes.ensures
