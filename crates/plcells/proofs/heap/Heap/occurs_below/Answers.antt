use Rattle.std.proofs.Common.{◌≡◌, false, ◌∙◌, ◌||◌, length, arith, ap, sym, subst}
use Rattle.plsubst.specs.Subst.{occurs}
use Rattle.plcells.specs.Store.{term}
use Rattle.plcells.specs.Walking.{weigh, occurs_any, AreBlocks}
use Rattle.plcells.proofs.Searching.{blocks-pop, any-push, weigh-push, or-all, empty-none}
use Rattle.plcells.proofs.heap.Heap.occurs_below.Goals as goal

pub returns-then-here : goal.returns-then-here
returns-then-here c = λ n numbered. sym (c.in_ok-here.ensures.found c.if-here.true n numbered)

pub loop-q-init : goal.loop-q-init
loop-q-init c = record {
  blocks = c.in_ok-here.ensures.blocks;
  left = λ n numbered.
      let h = c.args.self.now in
      let nothing : occurs_any n h c.clear.new.self.items ≡ false = empty-none n h c.clear.new.self.items (ap length c.clear.ensures.items) in
      sym (c.in_ok-here.ensures.left c.if-here.false n numbered ∙ ap (λ b. b || occurs n (term h c.args.p)) nothing);
}

pub look-requires-in-Some-clause-within : goal.look-requires-in-Some-clause-within
look-requires-in-Some-clause-within c =
    let h = c.args.self.now in
    (blocks-pop h c.pop.new.self.items c.in-Some.q (subst (AreBlocks h) c.in-Some.ensures.items c.loop-q.invariant.blocks)).1.0

pub look-requires-in-Some-clause-head : goal.look-requires-in-Some-clause-head
look-requires-in-Some-clause-head c =
    let h = c.args.self.now in
    (blocks-pop h c.pop.new.self.items c.in-Some.q (subst (AreBlocks h) c.in-Some.ensures.items c.loop-q.invariant.blocks)).1.1

pub look-requires-in-Some-clause-blocks : goal.look-requires-in-Some-clause-blocks
look-requires-in-Some-clause-blocks c =
    let h = c.args.self.now in
    (blocks-pop h c.pop.new.self.items c.in-Some.q (subst (AreBlocks h) c.in-Some.ensures.items c.loop-q.invariant.blocks)).0

pub returns-then-branch : goal.returns-then-branch
returns-then-branch c = λ n numbered.
    let h = c.args.self.now in
    let rest = c.pop.new.self.items in
    sym (c.loop-q.invariant.left n numbered ∙ ap (occurs_any n h) c.in-Some.ensures.items ∙ any-push n h rest c.in-Some.q
    ∙ ap (λ b. occurs_any n h rest || b) (c.in_ok-look.ensures.found c.if-branch.true n numbered) ∙ or-all (occurs_any n h rest))

pub loop-q-smaller : goal.loop-q-smaller
loop-q-smaller c =
    let h = c.args.self.now in
    let e = ap (weigh h) c.in-Some.ensures.items ∙ weigh-push h c.pop.new.self.items c.in-Some.q in
    omega (arith, e, c.in_ok-look.ensures.lighter c.if-branch.false)

pub loop-q-preserved : goal.loop-q-preserved
loop-q-preserved c =
    let h = c.args.self.now in
    let rest = c.pop.new.self.items in
    record {
      blocks = c.in_ok-look.ensures.blocks;
      left = λ n numbered. c.loop-q.invariant.left n numbered ∙ ap (occurs_any n h) c.in-Some.ensures.items ∙ any-push n h rest c.in-Some.q ∙ sym (c.in_ok-look.ensures.left c.if-branch.false n numbered);
    }

pub returns : goal.returns
returns c = λ n numbered.
    let h = c.args.self.now in
    let few : length c.loop-q.stack.items ≡ 0 = omega (arith, c.in_default.ensures.cases.0, c.loop-q.stack.ok.0) in
    sym (c.loop-q.invariant.left n numbered ∙ empty-none n h c.loop-q.stack.items few)
