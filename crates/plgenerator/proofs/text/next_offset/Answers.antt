use Rattle.std.proofs.Common.{◌≡◌, ◌+◌, length, drop, sym, ap, ◌∙◌, arith}
use Rattle.std.specs.Str.{chars, encode_utf8_all}
use Rattle.std.specs.Str.Iter.{chars_rest}
use Rattle.plgenerator.proofs.Offsets.{chars-le, passed-one, lengths-are}
use Rattle.plgenerator.proofs.text.next_offset.Goals as goal

pub overflow_sub-bytes : goal.overflow_sub-bytes
overflow_sub-bytes c =
    let cs = chars c.args.text.now in
    let k = c.args.offset.characters in
    let before : encode_utf8_all (drop k cs) ≡ chars_rest c.chars-rest.result = sym c.behind.ensures ∙ sym c.chars-rest.ensures.rest in
    let behind = passed-one cs (chars_rest c.chars-rest.result) (chars_rest c.next-passed.new.self) k c.next-passed.result _ c.requires.more before c.next-passed.ensures.steps.0 in
    omega (arith, ap length behind, ap length c.as_str.ensures, lengths-are c.args.text.now (k + 1) c.utf8.text)

pub overflow_add-result : goal.overflow_add-result
overflow_add-result c = omega (arith, c.requires.more, c.requires.name, chars-le c.args.text.now c.utf8.text)

pub returns-clause-offset : goal.returns-clause-offset
returns-clause-offset c =
    let cs = chars c.args.text.now in
    let k = c.args.offset.characters in
    let before : encode_utf8_all (drop k cs) ≡ chars_rest c.chars-rest.result = sym c.behind.ensures ∙ sym c.chars-rest.ensures.rest in
    let behind = passed-one cs (chars_rest c.chars-rest.result) (chars_rest c.next-passed.new.self) k c.next-passed.result _ c.requires.more before c.next-passed.ensures.steps.0 in
    record {
      within = omega (arith, c.requires.more);
      bytes = omega (arith, ap length behind, ap length c.as_str.ensures, lengths-are c.args.text.now (k + 1) c.utf8.text);
    }
