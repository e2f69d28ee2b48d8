use Rattle.std.proofs.Common.{◌+◌, ◌∷◌, [], length, length-append, ap, ◌∙◌, arith}
use Rattle.plcells.specs.declared.cell.Cell.TheVariants.{Ref}
use Rattle.plcells.proofs.Putting.{values-stay}
use Rattle.plorder.proofs.Occurring.{values-pushed}
use Rattle.plheaptests.proofs.made.variables.Goals as goal

pub loop-number-preserved : goal.loop-number-preserved
loop-number-preserved c =
    let before = c.loop-number.invariant in
    let adds = c.in_ok-c.ensures.ok in
    let grows = adds.grows in
    let vs = c.loop-number.values.items in
    let pushed = c.in_ok-push.ensures.items in
    let stay = values-stay c.loop-number.heap c.variable.new.self vs (record { longer = grows.longer; terms = grows.terms; values = grows.values; keeps = grows.keeps }) before.values in
    record {
      values = values-pushed c.variable.new.self vs c.push.new.self.items (Ref c.in_ok-c.c) stay adds.fits pushed;
      count = ap length pushed ∙ length-append vs (Ref c.in_ok-c.c ∷ []) ∙ ap (λ n. n + 1) before.count;
      fresh = λ m le. adds.fresh m (before.fresh m (omega (arith, le))) (λ same. omega (arith, le, same));
    }
