use Rattle.std.proofs.Common.{◌^◌, arith}
use Rattle.std.specs.Int.{w64}
use Rattle.plpack.proofs.Widths.{wide64, number_at_front}
use Rattle.plpack.proofs.parts.long_of.Goals as goal

pub returns : goal.returns
returns c =
    let h = c.in_ok-front.ensures.cases in
    number_at_front w64 (2 ^ 64) wide64 c.args.bytes.now c.in_ok-front.front.now c.in_ok-front.after.now c.from_be_bytes.result (λ i. omega (arith, c.type_inv.bytes i)) (omega (arith, h.2)) h.0 h.1 (omega arith) c.from_be_bytes.ensures
