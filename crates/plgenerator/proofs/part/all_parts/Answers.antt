use Rattle.std.proofs.Common.{◌≡◌, ◌+◌, ◌++◌, length, sym, ap, ◌∙◌, arith, rules, refl}
use Rattle.std.specs.Str.{chars}
use Rattle.std.proofs.lemmas.Str.{chars_from_encodes}
use Rattle.plbuiltin.specs.Pieces.{parts_at, parts_from}
use Rattle.plgenerator.specs.Turns.{parts_behind}
use Rattle.plgenerator.proofs.Offsets.{chars-le}
use Rattle.plgenerator.proofs.Rows.{rows-from}
use Rattle.plgenerator.proofs.part.all_parts.Goals as goal

pub overflow_cast-result : goal.overflow_cast-result
overflow_cast-result c =
    let many : c.count.result ≡ length (chars c.args.text.now) = search (rules, chars_from_encodes) in
    omega (arith, many, c.requires, chars-le c.args.text.now c.utf8.text)

pub returns-clause-part : goal.returns-clause-part
returns-clause-part c =
    let many : c.count.result ≡ length (chars c.args.text.now) = search (rules, chars_from_encodes) in
    record {
      offset = record {
        within = omega arith;
        bytes = refl;
      };
      all = omega (arith, many);
    }

pub returns-clause-all : goal.returns-clause-all
returns-clause-all c = λ us.
    let cs = chars c.args.text.now in
    let k = c.count.result in
    let many : k ≡ length cs = search (rules, chars_from_encodes) in
    let same : 0 + k ≡ k = omega arith in
    ap (λ n. parts_at cs us 0 0 k ++ parts_behind cs us 0 n) same ∙ sym (rows-from cs us 0 k) ∙ ap (parts_from cs us 0) many
