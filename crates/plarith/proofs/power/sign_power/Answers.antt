use Rattle.std.proofs.Common.{◌%◌, ap, sym, ◌∙◌, cond, pos, negsuc, w64}
use Rattle.std.proofs.lemmas.Bool.{eq-eqb, ne_eqb}
use Rattle.std.proofs.lemmas.Int.{to_z-of_z}
use Rattle.std.specs.Prelude.{unsigned_abs}
use Rattle.plarith.proofs.Powers.{sign_power_is}
use Rattle.plarith.proofs.power.sign_power.Goals as goal

pub returns-then-unsigned_abs-eq0 : goal.returns-then-unsigned_abs-eq0
returns-then-unsigned_abs-eq0 c =
    let n = unsigned_abs c.args.y in
    let e = rw (to_z-of_z w64 c.args.y c.ranges.y) at c.unsigned_abs.ensures.value in
    sym (sign_power_is n ∙ ap (λ b. cond b (pos 1) (negsuc 0)) (eq-eqb (n % 2) 0 (ap (λ m. m % 2) (sym e) ∙ c.if-unsigned_abs-eq0.true)))

pub returns-else-unsigned_abs-eq0 : goal.returns-else-unsigned_abs-eq0
returns-else-unsigned_abs-eq0 c =
    let n = unsigned_abs c.args.y in
    let e = rw (to_z-of_z w64 c.args.y c.ranges.y) at c.unsigned_abs.ensures.value in
    sym (sign_power_is n ∙ ap (λ b. cond b (pos 1) (negsuc 0)) (ne_eqb (n % 2) 0 (λ even. c.if-unsigned_abs-eq0.false (ap (λ m. m % 2) e ∙ even))))
