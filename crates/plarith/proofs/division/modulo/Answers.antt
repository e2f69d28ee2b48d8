use Rattle.std.proofs.Common.{◌≡◌, ◌+ℤ◌, FitsSigned, Ok, ap, ap₂, sym, ◌∙◌, to_z, of_z, w64, true, false}
use Rattle.std.proofs.lemmas.Int.{to_z-of_z}
use Rattle.plarith.specs.Integers.{is_apart}
use Rattle.plarith.proofs.Modulo.{modulo_apart, modulo_alike, apart_fits}
use Rattle.plarith.proofs.Widths.{some, divided_is}
use Rattle.plarith.proofs.division.modulo.Goals as goal

pub returns-then-is_apart : goal.returns-then-is_apart
returns-then-is_apart c =
    let x = c.args.x in
    let y = c.args.y in
    let r = c.rest-rest.result in
    let r_fits : FitsSigned w64 r = record { sfits = c.rest-rest.type_inv } in
    let same_x = to_z-of_z w64 x c.ranges.x in
    let same_y = to_z-of_z w64 y c.ranges.y in
    let same_r = to_z-of_z w64 r r_fits in
    let is = rw (same_x, same_y) at c.rest-rest.ensures.value in
    let apart : is_apart r y ≡ true = sym (rw (same_r, same_y) at c.is_apart.ensures) ∙ c.if-is_apart.true in
    ap (λ z. Ok (to_z w64 (of_z w64 z))) (ap₂ ◌+ℤ◌ same_r same_y) ∙ ap Ok (to_z-of_z w64 (r +ℤ y) (apart_fits r y r_fits c.ranges.y apart))
    ∙ sym (divided_is y _ c.if-y-eq0.false ∙ ap Ok (modulo_apart x y r (some y c.if-y-eq0.false) is apart))

pub returns-else-is_apart : goal.returns-else-is_apart
returns-else-is_apart c =
    let x = c.args.x in
    let y = c.args.y in
    let r = c.rest-rest.result in
    let r_fits : FitsSigned w64 r = record { sfits = c.rest-rest.type_inv } in
    let same_x = to_z-of_z w64 x c.ranges.x in
    let same_y = to_z-of_z w64 y c.ranges.y in
    let same_r = to_z-of_z w64 r r_fits in
    let is = rw (same_x, same_y) at c.rest-rest.ensures.value in
    let alike : is_apart r y ≡ false = sym (rw (same_r, same_y) at c.is_apart.ensures) ∙ c.if-is_apart.false in
    ap Ok same_r ∙ sym (divided_is y _ c.if-y-eq0.false ∙ ap Ok (modulo_alike x y r (some y c.if-y-eq0.false) is alike))
