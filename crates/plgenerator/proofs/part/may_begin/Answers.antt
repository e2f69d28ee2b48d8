use Rattle.std.proofs.Common.{◌≡◌, ◌++◌, take, drop, sym, ap, ◌∙◌}
use Rattle.std.specs.Str.{chars, encode_utf8_all}
use Rattle.std.proofs.lemmas.Bool.{MatchBool-at_false}
use Rattle.std.proofs.lemmas.List.{take-append-drop}
use Rattle.std.proofs.lemmas.Str.{encodes-append}
use Rattle.plgenerator.proofs.part.may_begin.Goals as goal

pub returns-in-Some-text : goal.returns-in-Some-text
returns-in-Some-text c = λ not us w l r e.
    let cs = chars c.args.text.now in
    let b = c.args.part.offset.characters in
    let left = drop b cs in
    let lacks = MatchBool-at_false _ _ not c.starts_with.ensures.cases in
    let divided : encode_utf8_all left ≡ encode_utf8_all (take l left) ++ encode_utf8_all (drop l left) = sym (ap encode_utf8_all (take-append-drop l left)) ∙ encodes-append (take l left) (drop l left) in
    w.text c.in-Some-text.name c.in-Some-text.is cs b l r
    (λ same. lacks (encode_utf8_all (drop l left)) (c.behind.ensures ∙ divided ∙ ap (λ s. s ++ encode_utf8_all (drop l left)) (same ∙ sym c.as_str.ensures)))
