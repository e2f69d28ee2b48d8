use Rattle.std.proofs.Common.{◌≡◌, length, ap, arith, rules, refl}
use Rattle.std.specs.Str.{chars}
use Rattle.std.proofs.lemmas.Str.{chars_from_encodes}
use Rattle.plbuiltin.specs.Pieces.{splits_from}
use Rattle.plgenerator.proofs.Offsets.{chars-le}
use Rattle.plgenerator.proofs.split.all_splits.Goals as goal

pub overflow_cast-result : goal.overflow_cast-result
overflow_cast-result c =
    let many : c.count.result ≡ length (chars c.args.text.now) = search (rules, chars_from_encodes) in
    omega (arith, many, c.requires, chars-le c.args.text.now c.utf8.text)

pub returns-clause-split : goal.returns-clause-split
returns-clause-split c =
    let many : c.count.result ≡ length (chars c.args.text.now) = search (rules, chars_from_encodes) in
    record {
      offset = record {
        within = omega arith;
        bytes = refl;
      };
      all = omega (arith, many);
    }

pub returns-clause-all : goal.returns-clause-all
returns-clause-all c = λ us.
    let cs = chars c.args.text.now in
    let many : c.count.result ≡ length cs = search (rules, chars_from_encodes) in
    ap (splits_from cs us 0) many
