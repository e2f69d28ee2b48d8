use Rattle.std.proofs.Common.{◌≡◌, ◌-◌, length, take, drop, sym, ap, ◌∙◌, arith}
use Rattle.std.specs.Str.{chars, encode_utf8_all}
use Rattle.std.specs.Str.Iter.{chars_rest}
use Rattle.std.proofs.lemmas.Str.{encodes-chars}
use Rattle.plgenerator.proofs.Offsets.{passed-one, lengths-are, front-is, back-is, boundary}
use Rattle.plgenerator.proofs.text.divided.Goals as goal

pub loop-init : goal.loop-init
loop-init c = record { rest = encodes-chars c.args.text.now c.utf8.text ∙ sym c.chars-rest.ensures.rest }

pub loop-preserved : goal.loop-preserved
loop-preserved c = record {
  rest = passed-one (chars c.args.text.now) (chars_rest c.loop.rest) (chars_rest c.next-passed.new.self) c.loop.counter c.next-passed.result _ (omega (arith, c.loop-test.true, c.requires)) c.loop.invariant.rest c.next-passed.ensures.steps.0;
}

pub overflow_sub-text : goal.overflow_sub-text
overflow_sub-text c =
    let text = c.args.text.now in
    let behind : encode_utf8_all (drop c.loop.counter (chars text)) ≡ c.as_str-behind.result.now = c.loop.invariant.rest ∙ sym c.as_str-behind.ensures in
    omega (arith, ap length behind, lengths-are text c.loop.counter c.utf8.text)

pub split_at-requires : goal.split_at-requires
split_at-requires c =
    let text = c.args.text.now in
    let n = c.loop.counter in
    let behind : encode_utf8_all (drop n (chars text)) ≡ c.as_str-behind.result.now = c.loop.invariant.rest ∙ sym c.as_str-behind.ensures in
    boundary text n (length text - length c.as_str-behind.result.now) c.utf8.text (omega (arith, ap length behind, lengths-are text n c.utf8.text))

pub returns-clause-front : goal.returns-clause-front
returns-clause-front c =
    let text = c.args.text.now in
    let n = c.loop.counter in
    let all : n ≡ c.args.count = omega (arith, c.loop.auto.counter-end, c.loop-test.false) in
    let behind : encode_utf8_all (drop n (chars text)) ≡ c.as_str-behind.result.now = c.loop.invariant.rest ∙ sym c.as_str-behind.ensures in
    c.split_at.ensures.front
    ∙ front-is text n (length text - length c.as_str-behind.result.now) c.utf8.text (omega (arith, ap length behind, lengths-are text n c.utf8.text))
    ∙ ap (λ k. encode_utf8_all (take k (chars text))) all

pub returns-clause-back : goal.returns-clause-back
returns-clause-back c =
    let text = c.args.text.now in
    let n = c.loop.counter in
    let all : n ≡ c.args.count = omega (arith, c.loop.auto.counter-end, c.loop-test.false) in
    let behind : encode_utf8_all (drop n (chars text)) ≡ c.as_str-behind.result.now = c.loop.invariant.rest ∙ sym c.as_str-behind.ensures in
    c.split_at.ensures.back
    ∙ back-is text n (length text - length c.as_str-behind.result.now) c.utf8.text (omega (arith, ap length behind, lengths-are text n c.utf8.text))
    ∙ ap (λ k. encode_utf8_all (drop k (chars text))) all
