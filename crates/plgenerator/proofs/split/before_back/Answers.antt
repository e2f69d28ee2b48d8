use Rattle.std.proofs.Common.{◌≡◌, ◌+◌, ◌-◌, [], ◌∷◌, ◌++◌, length, take, refl, ap, ◌∙◌, arith, rules, length-append}
use Rattle.std.specs.Str.{chars, encode_utf8_all, IsUtf8}
use Rattle.std.proofs.lemmas.Str.{chars_from_encodes, IsUtf8-take}
use Rattle.plterm.specs.Tree.{atom}
use Rattle.plgenerator.proofs.Offsets.{chars-le, both_parts, counts, front-taken, back-left, same-back}
use Rattle.plgenerator.proofs.Missing.{missing-back}
use Rattle.plgenerator.proofs.Rows.{splits-miss, split-only}
use Rattle.plgenerator.proofs.split.before_back.Goals as goal

pub returns-then-not-ends_with-clause-none : goal.returns-then-not-ends_with-clause-none
returns-then-not-ends_with-clause-none c = λ u.
    let text = c.args.text.now in
    let cs = chars text in
    let back = c.args.back.now in
    splits-miss cs (u ∷ atom back ∷ []) c.args.split.offset.characters c.args.split.after
    (λ a le most. missing-back cs a u (atom back) back refl (λ e. c.if-not-ends_with.ensures.cases (encode_utf8_all (take a cs)) (both_parts text a c.utf8.text ∙ ap (λ s. encode_utf8_all (take a cs) ++ s) e)))

pub returns-then-after-split-clause-none : goal.returns-then-after-split-clause-none
returns-then-after-split-clause-none c = λ u.
    let text = c.args.text.now in
    let cs = chars text in
    let back = c.args.back.now in
    let found = c.if-not-ends_with.ensures.cases in
    let front = take (length text - found.0) text in
    let utf8 : IsUtf8 front = IsUtf8-take text (length text - found.0) c.utf8.text found.3 in
    let many : c.count-after.result ≡ length (chars back) = search (rules, chars_from_encodes) in
    let room = counts text front back utf8 found.1.1 in
    let left = back-left text front back utf8 found.1.1 (length (chars front)) refl c.utf8.back in
    splits-miss cs (u ∷ atom back ∷ []) c.args.split.offset.characters c.args.split.after
    (λ a le most. missing-back cs a u (atom back) back refl
    (λ e. absurd (omega (arith, many, le, room, c.requires.split.all, c.if-after-split.true, same-back cs back a (length (chars front)) (omega (arith, most, c.requires.split.all)) (omega (arith, room)) e left))))

pub overflow_cast-result : goal.overflow_cast-result
overflow_cast-result c = omega (arith, c.requires.split.all, c.requires.name, chars-le c.args.text.now c.utf8.text)

pub returns-clause-split : goal.returns-clause-split
returns-clause-split c =
    let text = c.args.text.now in
    let back = c.args.back.now in
    let found = c.if-not-ends_with.ensures.cases in
    let front = take (length text - found.0) text in
    let utf8 : IsUtf8 front = IsUtf8-take text (length text - found.0) c.utf8.text found.3 in
    let many : c.count-after.result ≡ length (chars back) = search (rules, chars_from_encodes) in
    let room = counts text front back utf8 found.1.1 in
    let m = c.args.split.offset.characters + c.args.split.after - c.count-after.result in
    let there : length (chars front) ≡ m = omega (arith, many, room, c.requires.split.all) in
    record {
      offset = record {
        within = omega (arith, c.requires.split.all);
        bytes = ap length (front-taken text front back utf8 found.1.1 m there) ∙ omega (arith, ap length found.1.1, length-append front back);
      };
      all = omega (arith, many, room, c.requires.split.all);
    }

pub returns-clause-some : goal.returns-clause-some
returns-clause-some c = λ u.
    let text = c.args.text.now in
    let cs = chars text in
    let back = c.args.back.now in
    let found = c.if-not-ends_with.ensures.cases in
    let front = take (length text - found.0) text in
    let utf8 : IsUtf8 front = IsUtf8-take text (length text - found.0) c.utf8.text found.3 in
    let many : c.count-after.result ≡ length (chars back) = search (rules, chars_from_encodes) in
    let room = counts text front back utf8 found.1.1 in
    let m = c.args.split.offset.characters + c.args.split.after - c.count-after.result in
    let there : length (chars front) ≡ m = omega (arith, many, room, c.requires.split.all) in
    let left = back-left text front back utf8 found.1.1 m there c.utf8.back in
    split-only cs (u ∷ atom back ∷ []) c.args.split.offset.characters c.args.split.after m (omega (arith, c.if-after-split.false)) (omega (arith, c.requires.split.all))
    (λ a most apart. missing-back cs a u (atom back) back refl
    (λ e. apart (same-back cs back a m (omega (arith, most, c.requires.split.all)) (omega (arith, c.requires.split.all)) e left)))
