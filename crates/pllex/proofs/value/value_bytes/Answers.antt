use Rattle.std.proofs.Common.{◌+◌, ◌++◌, drop, arith, sym, ap, ◌∙◌, append-nil, append_assoc}
use Rattle.pllex.specs.Quoted.{value_step, next_mode, quoted_value}
use Rattle.pllex.proofs.Quotes.{value_goes, value_over}
use Rattle.pllex.proofs.value.value_bytes.Goals as goal

pub loop-place-preserved : goal.loop-place-preserved
loop-place-preserved c =
    let text = c.args.text.now in
    let place = c.loop-place.place in
    let old = c.loop-place.value.items in
    let rest = quoted_value c.args.quote c.args.start c.in-Some.next (place + 1) (drop (place + 1) text) in
    let turn = c.quoted_turn-turn.ensures.value in
    let pushed = c.in_ok-push_turn.ensures ∙ ap (λ t. old ++ value_step (drop place text) t) turn in
    let goes = value_goes c.args.quote c.args.start c.loop-place.mode c.in-Some.next place text (omega arith) (sym (c.in-Some.ensures ∙ ap next_mode turn)) in
    record {
      same = ap (λ l. l ++ rest) pushed ∙ append_assoc old _ rest ∙ ap (λ l. old ++ l) goes ∙ c.loop-place.invariant.same;
      within = omega arith;
    }

pub returns : goal.returns
returns c =
    let over = value_over c.args.quote c.args.start c.loop-place.mode c.loop-place.place c.args.text.now (omega arith) in
    sym (append-nil c.loop-place.value.items) ∙ ap (λ l. c.loop-place.value.items ++ l) (sym over) ∙ c.loop-place.invariant.same
