use Rattle.std.proofs.Common.{◌≡◌, ◌<◌, ◌^◌, ◌∙◌, ◌∷◌, [], ◌++◌, ℕ, List, length, take, drop, reverse, refl, ap, subst, sym, append_assoc, append-nil, arith, length-drop}
use Rattle.std.proofs.lemmas.List.{length-reverse, reverse-append}
use Rattle.plcode.specs.declared.node.Node.{Node}
use Rattle.plcode.specs.Laying.{lower, lowest}
use Rattle.plcode.proofs.Rows.{popped_none, take-next, drop-next, fold-next}
use Rattle.plcode.proofs.lay.put_row.Goals as goal

pub loop-preserved : goal.loop-preserved
loop-preserved c =
    let i = c.loop.invariant in
    let s = reverse c.args.waiting.now.items in
    let left = reverse c.pop.new.self.items in
    let n = c.in-Some.node in
    let popped : reverse c.loop.waiting.items ≡ n ∷ left = ap reverse c.in-Some.ensures.items ∙ reverse-append c.pop.new.self.items (n ∷ []) in
    let next : drop c.loop.counter s ≡ n ∷ left = sym i.waiting ∙ popped in
    record {
      room = i.room;
      nodes = c.in_ok-push.ensures.items
          ∙ ap (λ (ns : List Node). ns ++ n ∷ []) i.nodes
          ∙ append_assoc c.args.nodes.now.items (take c.loop.counter s) (n ∷ [])
          ∙ ap (λ (ns : List Node). c.args.nodes.now.items ++ ns) (sym (take-next c.loop.counter s left n next));
      waiting = sym (drop-next c.loop.counter s left n next);
      low = c.lower-low.ensures ∙ ap (λ low. lower low n) i.low ∙ sym (fold-next lower c.args.end c.loop.counter s left n next);
    }

pub loop-init : goal.loop-init
loop-init c = record {
  room = omega (arith, length-reverse c.args.waiting.now.items, c.requires);
  nodes = sym (append-nil c.args.nodes.now.items);
  waiting = refl;
  low = refl;
}

-- as many nodes are moved as are asked for
moved : (c : goal.In_ok-few) → c.loop.counter ≡ c.args.count
moved c = omega (arith, c.loop.auto.counter-end, c.loop-test.false)

pub returns-clause-nodes : goal.returns-clause-nodes
returns-clause-nodes c = c.loop.invariant.nodes ∙ ap (λ (k : ℕ). c.args.nodes.now.items ++ take k (reverse c.args.waiting.now.items)) (moved c)

pub returns-clause-few : goal.returns-clause-few
returns-clause-few c = let P : List Node → Type 0 = λ ns. length ns < 2 ^ 32 in subst P c.as_slice.ensures.value c.in_ok-few.ensures

pub returns-clause-waiting : goal.returns-clause-waiting
returns-clause-waiting c = c.loop.invariant.waiting ∙ ap (λ (k : ℕ). drop k (reverse c.args.waiting.now.items)) (moved c)

pub returns-clause-lowest : goal.returns-clause-lowest
returns-clause-lowest c = c.loop.invariant.low ∙ ap (λ (k : ℕ). lowest c.args.end (take k (reverse c.args.waiting.now.items))) (moved c)

pub unreachable-requires : goal.unreachable-requires
unreachable-requires c =
    let s = reverse c.args.waiting.now.items in
    let none : c.loop.waiting.items ≡ [] = popped_none c.loop.waiting.items c.pop.new.self.items _ c.in_default.ensures.items c.in_default.ensures.rest (omega (arith, c.loop.waiting.ok.0)) in
    omega (arith, c.loop.invariant.room, c.loop-test.true, ap length c.loop.invariant.waiting, length-drop c.loop.counter s, ap length none, length-reverse c.loop.waiting.items)
