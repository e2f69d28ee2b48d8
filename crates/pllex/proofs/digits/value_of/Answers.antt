use Rattle.std.proofs.Common.{◌+◌, drop, arith, sym, ap, ◌∙◌}
use Rattle.pllex.specs.Tokens.{value}
use Rattle.pllex.proofs.Values.{value_goes, too_big, is_over, is_fit}
use Rattle.pllex.proofs.digits.value_of.Goals as goal

pub returns-in-None : goal.returns-in-None
returns-in-None c =
    too_big c.args.base c.loop-place.number c.loop-place.place _ c.args.text.now (omega arith) (sym c.is_digit.ensures ∙ c.if-is_digit.true) c.loop-place.invariant.same (is_over _ _ c.in-None.ensures)

pub loop-place-preserved : goal.loop-place-preserved
loop-place-preserved c =
    let next = is_fit _ _ _ c.in-Some.ensures in
    record {
      same = ap (λ n. value c.args.base n (drop (c.loop-place.place + 1) c.args.text.now)) next.0 ∙ value_goes c.args.base c.loop-place.number c.loop-place.place c.args.text.now (omega arith) (sym c.is_digit.ensures ∙ c.if-is_digit.true) ∙ c.loop-place.invariant.same;
      small = omega (arith, next.0, next.1);
      within = omega arith;
    }
