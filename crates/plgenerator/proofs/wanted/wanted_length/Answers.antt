use Rattle.std.proofs.Common.{◌≡◌, length, ap, ◌∙◌, rules, subst}
use Rattle.std.specs.Str.{chars, IsUtf8}
use Rattle.std.proofs.lemmas.Str.{chars_from_encodes}
use Rattle.plgenerator.proofs.wanted.wanted_length.Goals as goal

pub returns-in-Some-clause-known : goal.returns-in-Some-clause-known
returns-in-Some-clause-known c =
    let text = c.as_str.result.now in
    let many : c.count.result ≡ length (chars text) = search (rules, chars_from_encodes) in
    let same : text ≡ c.in-Some.name = c.as_str.ensures in
    rw c.in-Some.is (subst IsUtf8 same c.as_str.utf8, many ∙ ap (λ s. length (chars s)) same)
