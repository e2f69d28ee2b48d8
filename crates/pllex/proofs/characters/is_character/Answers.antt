use Rattle.std.proofs.Common.{◌≤◌, length, take, ap, subst, ◌∙◌}
use Rattle.std.specs.Str.{IsUtf8}
use Rattle.pllex.proofs.Decoded.{well_at, ill_at}
use Rattle.pllex.proofs.characters.is_character.Goals as goal

pub returns-in-Ok : goal.returns-in-Ok
returns-in-Ok c =
    let n = c.width-width.result in
    let bytes = c.split_at-2.ensures.front ∙ ap (take n) c.split_at.ensures.back in
    well_at c.args.text.now c.args.place n c.requires c.width-width.ensures.value (subst (λ l. n ≤ length l) c.split_at.ensures.back c.if-behind-width.false)
    (subst IsUtf8 bytes c.in-Ok.ensures.cases.1)

pub returns-in-Err : goal.returns-in-Err
returns-in-Err c =
    let n = c.width-width.result in
    let bytes = c.split_at-2.ensures.front ∙ ap (take n) c.split_at.ensures.back in
    ill_at c.args.text.now c.args.place n c.requires c.width-width.ensures.value (subst (λ l. n ≤ length l) c.split_at.ensures.back c.if-behind-width.false)
    (subst (λ l. ¬ (IsUtf8 l)) bytes c.in-Err.ensures.cases.0)
