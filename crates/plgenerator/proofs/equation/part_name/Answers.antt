use Rattle.std.proofs.Common.{◌≡◌, length, take, drop, ap, ◌∙◌, arith}
use Rattle.std.specs.Str.{chars, encode_utf8_all}
use Rattle.std.proofs.lemmas.List.{length-drop}
use Rattle.std.proofs.lemmas.Result.{IfOk-weaker}
use Rattle.plgenerator.proofs.Offsets.{chars-behind}
use Rattle.plgenerator.proofs.equation.part_name.Goals as goal

pub divided-requires : goal.divided-requires
divided-requires c =
    let text = c.args.text.now in
    let k = c.args.part.offset.characters in
    let behind : length (chars c.behind.result.now) ≡ length (drop k (chars text)) = ap (λ s. length (chars s)) c.behind.ensures ∙ ap length (chars-behind text k c.utf8.text) in
    omega (arith, behind, length-drop k (chars text), c.requires.all)

pub returns-clause-is : goal.returns-clause-is
returns-clause-is c =
    let text = c.args.text.now in
    let p = c.args.part in
    let k = p.offset.characters in
    let behind : chars c.behind.result.now ≡ drop k (chars text) = ap chars c.behind.ensures ∙ chars-behind text k c.utf8.text in
    IfOk-weaker c.short_name.result _ (λ name. name ≡ encode_utf8_all (take p.length (drop k (chars text))))
    (λ name is. is ∙ c.divided.ensures.front ∙ ap (λ cs. encode_utf8_all (take p.length cs)) behind) c.short_name.ensures.is
