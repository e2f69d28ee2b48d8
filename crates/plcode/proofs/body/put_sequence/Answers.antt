use Rattle.std.proofs.Common.{◌≡◌, ◌∙◌, ◌∷◌, [], ◌++◌, ◌-◌, ◌<◌, ℕ, List, length, take, drop, reverse, get_or, ap, sym, arith, append_assoc, length-append, length-drop, length-take}
use Rattle.std.proofs.lemmas.List.{take_all}
use Rattle.plcode.specs.declared.op.Step.{Step}
use Rattle.plcode.specs.declared.op.Op.TheVariants as ops
use Rattle.plcode.specs.Bodies.{step}
use Rattle.plcode.proofs.Rows.{take-from, topmost, below_topmost}
use Rattle.plcode.proofs.body.put_sequence.Goals as goal

pub loop-place-preserved : goal.loop-place-preserved
loop-place-preserved c =
    let i = c.loop-place.invariant in
    let s = c.args.made.now.items in
    let old = c.args.code.now.items in
    let from = c.len.result - c.args.count in
    let place = c.loop-place.place in
    let x = c.index.result.now in
    let lt : place < length s = omega arith in
    let is : get_or s place x ≡ x = sym c.index.ensures in
    let next = take-from from place s x i.from lt is in
    record {
      from = omega arith;
      code = c.in_ok-push-2.ensures.items
          ∙ ap (λ (ss : List Step). ss ++ x ∷ []) i.code
          ∙ append_assoc old (step ops.Proceed 0 ++ take (place - from) (drop from s)) (x ∷ [])
          ∙ ap (λ (ss : List Step). old ++ (step ops.Proceed 0 ++ ss)) (sym next);
    }

pub returns-clause-code : goal.returns-clause-code
returns-clause-code c =
    let i = c.loop-place.invariant in
    let s = c.args.made.now.items in
    let old = c.args.code.now.items in
    let count = c.args.count in
    let from = c.len.result - count in
    let all : take (c.loop-place.place - from) (drop from s) ≡ drop from s = take_all (c.loop-place.place - from) (drop from s) (omega (arith, length-drop from s, c.len.ensures, c.len-place-end.ensures)) in
    i.code ∙ ap (λ (ss : List Step). old ++ (step ops.Proceed 0 ++ ss)) (all ∙ sym (topmost s count from (omega (arith, c.len.ensures)) c.requires))

pub returns-clause-made : goal.returns-clause-made
returns-clause-made c =
    let s = c.args.made.now.items in
    let from = c.len.result - c.args.count in
    ap (λ (ss : List Step). reverse ss) c.truncate.ensures.items ∙ below_topmost s c.args.count from (omega (arith, c.len.ensures)) c.requires

pub loop-place-init : goal.loop-place-init
loop-place-init c =
    let s = c.args.made.now.items in
    let from = c.len.result - c.args.count in
    let none : from - from ≡ 0 = omega arith in
    record {
      from = omega arith;
      code = c.in_ok-push.ensures.items ∙ sym (ap (λ (k : ℕ). c.args.code.now.items ++ (step ops.Proceed 0 ++ take k (drop from s))) none);
    }

pub returns-clause-place : goal.returns-clause-place
returns-clause-place c =
    let s = c.args.made.now.items in
    let old = c.args.code.now.items in
    let from = c.len.result - c.args.count in
    let put = take (c.loop-place.place - from) (drop from s) in
    omega (arith, ap length c.loop-place.invariant.code, length-append old (step ops.Proceed 0 ++ put), length-take (c.loop-place.place - from) (drop from s), length-drop from s)
