use Rattle.std.proofs.Common.{◌≡◌, ◌∙◌, ◌+◌, ◌∷◌, [], length, length-append, ap, subst, sym, refl, arith}
use Rattle.std.proofs.lemmas.List.{get_or_default}
use Rattle.plcode.specs.declared.node.Node.TheVariants.{Var}
use Rattle.plcode.specs.Packed.{node_at}
use Rattle.plenv.specs.Blocks.{IsPart}
use Rattle.plenv.proofs.Gathering.{no-cell, no-cell-trans, ready-at, ready-still, parts-next, one-still, one-first, none-of, has-free}
use Rattle.plenv.proofs.block.gather.Goals.{in-Variable+else-is_some, in_default}
use Rattle.plenv.proofs.block.gather.Goals as goal

pub loop-i-init : goal.loop-i-init
loop-i-init c = rw c.clear.ensures.items (record { grows = no-cell c.args.heap.now; parts = tt; length = refl; one = refl })

pub part-requires : goal.part-requires
part-requires c =
    let l = c.loop-i in
    let n = node_at c.args.row.now l.i in
    ready-still c.args.heap.now l.heap l.invariant.grows c.args.slots.now c.args.run.now n (ready-at c.args.heap.now c.args.run.now c.args.row.now l.i _ c.requires c.loop-i-test.true)

pub returns-in_err-x-clause-grows : goal.returns-in_err-x-clause-grows
returns-in_err-x-clause-grows c = no-cell-trans c.args.heap.now c.loop-i.heap c.part.new.heap c.loop-i.invariant.grows c.in_err-x.ensures.grows

pub returns-then-is_some-clause-grows : goal.returns-then-is_some-clause-grows
returns-then-is_some-clause-grows c = no-cell-trans c.args.heap.now c.loop-i.heap c.part.new.heap c.loop-i.invariant.grows c.in_ok-x.ensures.grows

pub returns-then-is_some-clause-ok : goal.returns-then-is_some-clause-ok
returns-then-is_some-clause-ok c =
    let l = c.loop-i in
    let n = node_at c.args.row.now l.i in
    has-free c.part.new.heap c.args.slots.now c.args.run.now c.args.row.now l.i n c.in-Variable.number c.loop-i-test.true refl
    (subst (IsPart c.part.new.heap c.args.slots.now c.args.run.now n) c.in-Variable.is c.in_ok-x.ensures.ok)

pub returns-in_err-push-clause-grows : goal.returns-in_err-push-clause-grows
returns-in_err-push-clause-grows c = no-cell-trans c.args.heap.now c.loop-i.heap c.part.new.heap c.loop-i.invariant.grows c.in_ok-x.ensures.grows

pub loop-i-preserved : goal.loop-i-preserved
loop-i-preserved c =
    let l = c.loop-i in
    let n = node_at c.args.row.now l.i in
    let new = c.part.new.heap in
    let slots = c.args.slots.now in
    let r = c.args.run.now in
    let items = c.in_ok-push.ensures.items in
    let read = get_or_default c.args.row.now l.i (Var 0) n c.loop-i-test.true in
    let grows = no-cell-trans c.args.heap.now l.heap new l.invariant.grows c.in_ok-x.ensures.grows in
    let longer : length c.push.new.self.items ≡ l.i + 1 = omega (arith, ap length items, length-append l.block.items (c.match-x.x ∷ []), l.invariant.length) in
    elim c.match-x.branch [
      | in-Variable+else-is_some w ↦ record {
        grows = grows;
        parts = rw items (parts-next l.heap new slots r c.args.row.now l.i l.block.items n c.match-x.x c.loop-i-test.true read c.in_ok-x.ensures.grows l.invariant.parts (subst (IsPart new slots r n) (sym w.x-is) (subst (IsPart new slots r n) w.in-Variable.is c.in_ok-x.ensures.ok)));
        length = longer;
        one = rw (items, w.one-is) (one-first l.block.items c.match-x.x l.one l.i w.in-Variable.number (none-of l.one (sym w.is_some.ensures ∙ w.if-is_some.false)) w.x-is l.invariant.length l.invariant.one);
      }
      | in_default w ↦ record {
        grows = grows;
        parts = rw items (parts-next l.heap new slots r c.args.row.now l.i l.block.items n c.match-x.x c.loop-i-test.true read c.in_ok-x.ensures.grows l.invariant.parts (subst (IsPart new slots r n) (sym w.x-is) c.in_ok-x.ensures.ok));
        length = longer;
        one = rw (items, w.one-is) (one-still l.block.items c.match-x.x l.one (λ m e. w.in_default.not-Variable m (sym w.x-is ∙ e)) l.invariant.one);
      }
    ]
