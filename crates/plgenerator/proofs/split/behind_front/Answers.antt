use Rattle.std.proofs.Common.{◌≡◌, [], ◌∷◌, ◌++◌, length, drop, refl, sym, ap, ◌∙◌, arith, rules}
use Rattle.std.specs.Str.{chars, encode_utf8_all}
use Rattle.std.proofs.lemmas.Str.{chars_from_encodes}
use Rattle.plterm.specs.Tree.{atom}
use Rattle.plgenerator.proofs.Offsets.{both_parts, counts, front-taken, same-front}
use Rattle.plgenerator.proofs.Missing.{missing-front}
use Rattle.plgenerator.proofs.Rows.{splits-miss, split-only}
use Rattle.plgenerator.proofs.split.behind_front.Goals as goal

pub returns-then-not-starts_with-clause-none : goal.returns-then-not-starts_with-clause-none
returns-then-not-starts_with-clause-none c = λ u.
    let text = c.args.text.now in
    let cs = chars text in
    let front = c.args.front.now in
    splits-miss cs (atom front ∷ u ∷ []) c.args.split.offset.characters c.args.split.after
    (λ a le most. missing-front cs a (atom front) u front refl (λ e. c.if-not-starts_with.ensures.cases (encode_utf8_all (drop a cs)) (both_parts text a c.utf8.text ∙ ap (λ s. s ++ encode_utf8_all (drop a cs)) e)))

pub returns-then-characters-split-clause-none : goal.returns-then-characters-split-clause-none
returns-then-characters-split-clause-none c = λ u.
    let text = c.args.text.now in
    let cs = chars text in
    let front = c.args.front.now in
    let found = c.if-not-starts_with.ensures.cases in
    let is = found.1.1 in
    let many : c.count-characters.result ≡ length (chars front) = search (rules, chars_from_encodes) in
    let rest = drop found.0 text in
    let room = counts text front rest c.utf8.front is in
    let taken = front-taken text front rest c.utf8.front is (length (chars front)) refl in
    splits-miss cs (atom front ∷ u ∷ []) c.args.split.offset.characters c.args.split.after
    (λ a le most. missing-front cs a (atom front) u front refl
    (λ e. absurd (omega (arith, many, le, c.if-characters-split.true, same-front cs front a (length (chars front)) (omega (arith, most, c.requires.split.all)) (omega (arith, room)) e taken))))

pub overflow_sub-result : goal.overflow_sub-result
overflow_sub-result c =
    let found = c.if-not-starts_with.ensures.cases in
    let front = c.args.front.now in
    let many : c.count-characters.result ≡ length (chars front) = search (rules, chars_from_encodes) in
    omega (arith, many, counts c.args.text.now front (drop found.0 c.args.text.now) c.utf8.front found.1.1, c.requires.split.all)

pub returns-clause-split : goal.returns-clause-split
returns-clause-split c =
    let text = c.args.text.now in
    let front = c.args.front.now in
    let found = c.if-not-starts_with.ensures.cases in
    let rest = drop found.0 text in
    let many : c.count-characters.result ≡ length (chars front) = search (rules, chars_from_encodes) in
    let room = counts text front rest c.utf8.front found.1.1 in
    record {
      offset = record {
        within = omega (arith, many, room);
        bytes = ap length (front-taken text front rest c.utf8.front found.1.1 c.count-characters.result (sym many));
      };
      all = omega (arith, many, room, c.requires.split.all);
    }

pub returns-clause-some : goal.returns-clause-some
returns-clause-some c = λ u.
    let text = c.args.text.now in
    let cs = chars text in
    let front = c.args.front.now in
    let found = c.if-not-starts_with.ensures.cases in
    let rest = drop found.0 text in
    let m = c.count-characters.result in
    let many : m ≡ length (chars front) = search (rules, chars_from_encodes) in
    let room = counts text front rest c.utf8.front found.1.1 in
    let taken = front-taken text front rest c.utf8.front found.1.1 m (sym many) in
    split-only cs (atom front ∷ u ∷ []) c.args.split.offset.characters c.args.split.after m (omega (arith, c.if-characters-split.false)) (omega (arith, many, room, c.requires.split.all))
    (λ a most apart. missing-front cs a (atom front) u front refl
    (λ e. apart (same-front cs front a m (omega (arith, most, c.requires.split.all)) (omega (arith, many, room)) e taken)))
