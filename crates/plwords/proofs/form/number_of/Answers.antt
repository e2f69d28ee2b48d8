use Rattle.std.proofs.Common.{◌∙◌, ap, arith, Some}
use Rattle.plwords.proofs.Numbers.{is_number, no_number}
use Rattle.plwords.proofs.form.number_of.Goals as goal

pub returns-then-number-le-MOST_STEPS : goal.returns-then-number-le-MOST_STEPS
returns-then-number-le-MOST_STEPS c =
    let value = c.in-Ok.ensures.value.0 in
    ap Some value.1 ∙ is_number c.args.text.now (value.0.0, value.0.1, omega (arith, value.1, c.if-number-ge1.true), omega (arith, value.1, c.if-number-le-MOST_STEPS.true))

pub returns-in-Err : goal.returns-in-Err
returns-in-Err c =
    let value = c.in-Err.ensures.value.0 in
    no_number c.args.text.now (λ h. value (h.0, h.1))
