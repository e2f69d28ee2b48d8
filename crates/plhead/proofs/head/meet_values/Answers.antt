use Rattle.std.proofs.Common.{◌≡◌, ◌+◌, ◌-◌, ◌<◌, ◌++◌, [], ◌∷◌, length, take, arith, le_refl, append-nil, subst, sym}
use Rattle.std.proofs.lemmas.List.{take_all}
use Rattle.plenv.specs.Env.{Env}
use Rattle.plenv.specs.Rows.{tree_at}
use Rattle.plhead.specs.Equations.{pairs}
use Rattle.plhead.specs.Progress.{Onward}
use Rattle.plhead.proofs.Slots.{keeps-refl, keeps-trans}
use Rattle.plhead.proofs.Steps.{sound-now}
use Rattle.plhead.proofs.Values.{value-top, value-unified, value-waits}
use Rattle.plhead.proofs.head.meet_values.Goals as goal

pub loop-i-init : goal.loop-i-init
loop-i-init c =
    let e = c.args.env.now in
    let w = tree_at e.heap.names c.args.nodes.now in
    let before = c.args.work.now.items ++ pairs c.args.head.row.at c.args.values.now in
    record {
      most = le_refl _;
      on = subst (λ vs. Onward e e c.args.head.base c.args.nodes.now w before (c.args.work.now.items ++ pairs c.args.head.row.at vs)) (sym (take_all (length c.args.values.now) c.args.values.now (le_refl _)))
          (record { equations = c.requires.equations; progress = λ start s t come. come });
      keeps = keeps-refl e;
    }

pub takes-requires-clause-sound : goal.takes-requires-clause-sound
takes-requires-clause-sound c = sound-now c.args.env.now c.loop-i.env c.args.nodes.now c.requires.laid c.loop-i.invariant.keeps

pub takes-requires-clause-is : goal.takes-requires-clause-is
takes-requires-clause-is c =
    let l = c.loop-i in
    let up : l.i ≡ l.i - 1 + 1 = omega (arith, c.loop-i-test.true) in
    let lt : l.i - 1 < length c.args.values.now = omega (arith, l.invariant.most, up) in
    value-top c.args.env.now l.env c.args.head.base c.args.nodes.now c.requires.laid l.invariant.keeps (c.args.work.now.items ++ pairs c.args.head.row.at c.args.values.now) l.work.items c.args.head.row.at c.args.values.now
    l.i (l.i - 1) c.index-values-i.result _ up lt c.index-values-i.is l.invariant.on

pub returns-in_err-takes-clause-keeps : goal.returns-in_err-takes-clause-keeps
returns-in_err-takes-clause-keeps c = keeps-trans c.args.env.now c.loop-i.env c.takes.new.env c.loop-i.invariant.keeps c.takes.ensures.keeps

pub loop-i-preserved : goal.loop-i-preserved
loop-i-preserved c =
    let l = c.loop-i in
    let up : l.i ≡ l.i - 1 + 1 = omega (arith, c.loop-i-test.true) in
    let lt : l.i - 1 < length c.args.values.now = omega (arith, l.invariant.most, up) in
    record {
      most = omega (arith, l.invariant.most);
      on = value-unified c.args.env.now l.env c.args.head.base c.args.nodes.now c.requires.laid l.invariant.keeps (c.args.work.now.items ++ pairs c.args.head.row.at c.args.values.now) l.work.items c.args.head.row.at c.args.values.now
          l.i (l.i - 1) c.index-values-i.result _ up lt c.index-values-i.is l.invariant.on c.takes.new.env (c.in_ok-takes.ensures.yes c.if-not-branch.false);
      keeps = keeps-trans c.args.env.now l.env c.takes.new.env l.invariant.keeps c.takes.ensures.keeps;
    }

pub loop-i-preserved-in_ok-push : goal.loop-i-preserved-in_ok-push
loop-i-preserved-in_ok-push c =
    let l = c.loop-i in
    let up : l.i ≡ l.i - 1 + 1 = omega (arith, c.loop-i-test.true) in
    let lt : l.i - 1 < length c.args.values.now = omega (arith, l.invariant.most, up) in
    let before = c.args.work.now.items ++ pairs c.args.head.row.at c.args.values.now in
    let same : c.takes.new.env ≡ l.env = c.in_ok-takes.ensures.no c.if-not-branch.true in
    let waits = value-waits c.args.env.now l.env c.args.head.base c.args.nodes.now c.requires.laid l.invariant.keeps before l.work.items c.args.head.row.at c.args.values.now
    l.i (l.i - 1) c.index-values-i-then-not-branch.result _ up lt c.index-values-i-then-not-branch.is l.invariant.on in
    record {
      most = omega (arith, l.invariant.most);
      on = subst (λ ws. Onward c.args.env.now c.takes.new.env c.args.head.base c.args.nodes.now (tree_at c.args.env.now.heap.names c.args.nodes.now) before (ws ++ pairs c.args.head.row.at (take (l.i - 1) c.args.values.now))) (sym c.in_ok-push.ensures.items)
          (subst (λ (e : Env). Onward c.args.env.now e c.args.head.base c.args.nodes.now (tree_at c.args.env.now.heap.names c.args.nodes.now) before ((l.work.items ++ (c.args.head.row.at + (l.i - 1), c.index-values-i-then-not-branch.result) ∷ []) ++ pairs c.args.head.row.at (take (l.i - 1) c.args.values.now))) (sym same) waits);
      keeps = keeps-trans c.args.env.now l.env c.takes.new.env l.invariant.keeps c.takes.ensures.keeps;
    }

pub returns-clause-ok : goal.returns-clause-ok
returns-clause-ok c =
    let l = c.loop-i in
    let none : l.i ≡ 0 = omega (arith, c.loop-i-test.false) in
    subst (λ ws. Onward c.args.env.now l.env c.args.head.base c.args.nodes.now (tree_at c.args.env.now.heap.names c.args.nodes.now) (c.args.work.now.items ++ pairs c.args.head.row.at c.args.values.now) ws) (append-nil l.work.items)
    (subst (λ i. Onward c.args.env.now l.env c.args.head.base c.args.nodes.now (tree_at c.args.env.now.heap.names c.args.nodes.now) (c.args.work.now.items ++ pairs c.args.head.row.at c.args.values.now) (l.work.items ++ pairs c.args.head.row.at (take i c.args.values.now))) none l.invariant.on)
