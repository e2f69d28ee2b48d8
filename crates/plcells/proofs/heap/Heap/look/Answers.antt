use Rattle.std.proofs.Common.{◌≡◌, ◌∙◌, ◌+◌, ◌||◌, suc, arith, ap, sym}
use Rattle.std.proofs.lemmas.Bool.{eqb-true, eqb-false}
use Rattle.plterm.specs.Tree.{trees}
use Rattle.plsubst.specs.Subst.{occurs, occurs_in}
use Rattle.plcells.specs.Store.{term, terms}
use Rattle.plcells.specs.Walking.{weights, occurs_any}
use Rattle.plcells.proofs.Searching.{weight-some, some-argument, none-argument, block-weight, same-some, other-none, leaf, skipped-left, skipped-lighter, pushed-left, pushed-lighter, blocks-push, start-left, start-lighter}
use Rattle.plcells.proofs.Ids.{below}
use Rattle.plcells.proofs.heap.Heap.look.Goals as goal
use Rattle.plcells.proofs.heap.Heap.look.Goals.{in-Ref+else-eq, in-Str+then-ge+in_ok-push-in-Str, in-Str+else-ge, in_default-root}

pub returns-in_default-clause-lighter : goal.returns-in_default-clause-lighter
returns-in_default-clause-lighter c = λ e. omega (arith, weight-some (term c.args.self.now c.args.p))

pub loop-j-init : goal.loop-j-init
loop-j-init c =
    let h = c.args.self.now in
    record {
      blocks = c.requires.blocks;
      left = λ n numbered. start-left n h c.args.stack.now.items;
      lighter = start-lighter h c.args.stack.now.items;
    }

pub arg-requires : goal.arg-requires
arg-requires c =
    let b = c.open_arity.ensures.some c.in-Some.count c.in-Some.is in
    omega (arith, b.within, b.few, c.loop-j-test.true, c.from.ensures)

pub argument-requires-clause-within : goal.argument-requires-clause-within
argument-requires-clause-within c =
    let b = c.open_arity.ensures.some c.in-Some.count c.in-Some.is in
    omega (arith, b.within, c.loop-j-test.true, c.from.ensures, c.arg.ensures)

pub argument-requires-clause-plain : goal.argument-requires-clause-plain
argument-requires-clause-plain c =
    let b = c.open_arity.ensures.some c.in-Some.count c.in-Some.is in
    b.plain c.arg.result (omega (arith, c.arg.ensures)) (omega (arith, c.loop-j-test.true, c.from.ensures, c.arg.ensures))

pub returns-then-eq-clause-found : goal.returns-then-eq-clause-found
returns-then-eq-clause-found c = λ e n numbered.
    let h = c.args.self.now in
    let b = c.open_arity.ensures.some c.in-Some.count c.in-Some.is in
    let d = c.arg.result in
    let same : term h d ≡ term h c.in-Ref.c = sym c.argument.ensures.same ∙ sym c.in-Ref.ensures.same in
    some-argument h c.args.p c.in-Some.count c.loop-j.j d n b (omega (arith, c.from.ensures, c.arg.ensures)) c.loop-j-test.true
    (ap (occurs n) same ∙ same-some h c.root.ensures.heap c.args.x n c.requires.variable numbered c.in-Ref.c (eqb-true c.in-Ref.c c.args.x (sym c.eq.ensures ∙ c.if-eq.true)))

pub loop-j-preserved : goal.loop-j-preserved
loop-j-preserved c =
    let h = c.args.self.now in
    let old = c.args.stack.now.items in
    let p = c.args.p in
    let j = c.loop-j.j in
    let d = c.arg.result in
    let is : d ≡ suc p + j = omega (arith, c.from.ensures, c.arg.ensures) in
    let inv = c.loop-j.invariant in
    elim c.match-root.branch [
      | in-Ref+else-eq w ↦ rw w.stack-is (
          let same : term h d ≡ term h w.in-Ref.c = sym c.argument.ensures.same ∙ sym w.in-Ref.ensures.same in
          record {
            blocks = inv.blocks;
            left = λ n numbered. skipped-left h p j d old c.loop-j.stack.items is n (inv.left n numbered) (ap (occurs n) same ∙ other-none h c.root.ensures.heap c.args.x n c.requires.variable numbered w.in-Ref.c w.in-Ref.ensures.end (eqb-false w.in-Ref.c c.args.x (sym w.eq.ensures ∙ w.if-eq.false)));
            lighter = skipped-lighter h p j d old c.loop-j.stack.items is inv.lighter;
          })
      | in-Str+then-ge+in_ok-push-in-Str w ↦ rw (w.stack-is, w.in_ok-push-in-Str.ensures.items) (
          let same : term h w.in-Str.q ≡ term h d = w.in-Str.ensures.same ∙ c.argument.ensures.same in
          record {
            blocks = blocks-push h c.loop-j.stack.items w.in-Str.q inv.blocks w.in-Str.ensures.fits.0 w.in-Str.ensures.fits.1;
            left = λ n numbered. pushed-left h p j d old c.loop-j.stack.items is n (inv.left n numbered) w.in-Str.q same;
            lighter = pushed-lighter h p j d old c.loop-j.stack.items is inv.lighter w.in-Str.q same;
          })
      | in-Str+else-ge w ↦ rw w.stack-is (
          let same : term h d ≡ term h w.in-Str.q = sym c.argument.ensures.same ∙ sym w.in-Str.ensures.same in
          record {
            blocks = inv.blocks;
            left = λ n numbered. skipped-left h p j d old c.loop-j.stack.items is n (inv.left n numbered) (ap (occurs n) same ∙ c.requires.floor n w.in-Str.q numbered (below w.in-Str.q c.args.floor w.ge.ensures w.if-ge.false));
            lighter = skipped-lighter h p j d old c.loop-j.stack.items is inv.lighter;
          })
      | in_default-root w ↦ rw w.stack-is (
          record {
            blocks = inv.blocks;
            left = λ n numbered. skipped-left h p j d old c.loop-j.stack.items is n (inv.left n numbered)
                (ap (occurs n) (sym c.argument.ensures.same ∙ sym c.root.ensures.same) ∙ leaf h n c.root.result c.root.ensures.fits w.in_default-root.not-Ref w.in_default-root.not-Str);
            lighter = skipped-lighter h p j d old c.loop-j.stack.items is inv.lighter;
          })
    ]

pub returns-clause-left : goal.returns-clause-left
returns-clause-left c = λ e n numbered.
    let h = c.args.self.now in
    let b = c.open_arity.ensures.some c.in-Some.count c.in-Some.is in
    let all : c.loop-j.j ≡ c.in-Some.count = omega (arith, c.loop-j-test.false, c.loop-j.auto.j-end) in
    c.loop-j.invariant.left n numbered
    ∙ ap (λ k. occurs_any n h c.args.stack.now.items || occurs_in n (trees (terms h (suc c.args.p) k))) all
    ∙ ap (λ q. occurs_any n h c.args.stack.now.items || q) (sym (none-argument h c.args.p c.in-Some.count n b))

pub returns-clause-lighter : goal.returns-clause-lighter
returns-clause-lighter c = λ e.
    let h = c.args.self.now in
    let b = c.open_arity.ensures.some c.in-Some.count c.in-Some.is in
    let all : c.loop-j.j ≡ c.in-Some.count = omega (arith, c.loop-j-test.false, c.loop-j.auto.j-end) in
    omega (arith, c.loop-j.invariant.lighter, ap (λ k. weights (trees (terms h (suc c.args.p) k))) all, block-weight h c.args.p c.in-Some.count b)
