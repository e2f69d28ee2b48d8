use Rattle.std.proofs.Common.{◌∙◌, ◌+◌, map, refl, ap, subst, arith}
use Rattle.std.proofs.lemmas.List.{take_all}
use Rattle.std.proofs.lemmas.Result.{err_from_is_err_and}
use Rattle.plsubst.specs.Subst.{bind}
use Rattle.plenv.specs.Env.{Env, over}
use Rattle.plenv.specs.Changes.{AreFor, Puts, Stays}
use Rattle.plenv.specs.Rows.{row_at, tree_at}
use Rattle.plenv.proofs.Putting.{Stays-refl, Stays-trans, Puts-stays}
use Rattle.plenv.proofs.Packing.{over-after}
use Rattle.plenv.proofs.Rows.{covers-one, row-more, row-length}
use Rattle.plenv.proofs.env.Environment.put_row.Goals as goal

pub loop-i-init : goal.loop-i-init
loop-i-init c = rw c.clear.ensures.items (record { are = tt; stays = Stays-refl c.args.self.now; names = refl; freed = λ i n lt at. at })

pub put_at-requires-clause-covers : goal.put_at-requires-clause-covers
put_at-requires-clause-covers c =
    let l = c.loop-i in
    covers-one c.args.self.now l.self c.args.base c.args.nodes.now c.args.row l.i c.requires.row c.requires.covers l.invariant.stays l.invariant.names c.loop-i-test.true

pub returns-in_err-v-clause-err : goal.returns-in_err-v-clause-err
returns-in_err-v-clause-err c =
    let p = err_from_is_err_and c.from_residual.result c.from_residual.ensures.1 in
    rw p.1 (Stays-trans c.args.self.now c.loop-i.self c.put_at.new.self c.loop-i.invariant.stays c.in_err-v.ensures.err)

pub returns-in_err-push-clause-err : goal.returns-in_err-push-clause-err
returns-in_err-push-clause-err c =
    let p = err_from_is_err_and c.from_residual-in_err-push.result c.from_residual-in_err-push.ensures.1 in
    let kept : Stays c.loop-i.self c.put_at.new.self = Puts-stays _ _ _ _ c.in_ok-v.ensures.ok in
    rw p.1 (Stays-trans c.args.self.now c.loop-i.self c.put_at.new.self c.loop-i.invariant.stays kept)

pub loop-i-preserved : goal.loop-i-preserved
loop-i-preserved c =
    let l = c.loop-i in
    let now : Env = c.args.self.now in
    let mid : Env = l.self in
    let new : Env = c.put_at.new.self in
    let nodes = c.args.nodes.now in
    let at = c.args.row.at + l.i in
    let kept : Stays mid new = Puts-stays _ _ _ _ c.in_ok-v.ensures.ok in
    let covers = covers-one now now c.args.base nodes c.args.row l.i c.requires.row c.requires.covers (Stays-refl now) refl c.loop-i-test.true in
    let same = ap (λ t. bind (over mid c.args.base) (tree_at t nodes at)) l.invariant.names ∙ over-after now mid c.args.base (tree_at now.heap.names nodes at) l.invariant.stays covers in
    let puts = subst (Puts mid new c.in_ok-v.v) same c.in_ok-v.ensures.ok in
    record {
      are = rw c.in_ok-push.ensures.items (row-more now mid new c.args.base nodes c.args.row l.i l.values.items c.in_ok-v.v c.requires.row c.loop-i-test.true l.invariant.are puts);
      stays = Stays-trans now mid new l.invariant.stays kept;
      names = c.in_ok-v.ensures.names ∙ l.invariant.names;
      freed = λ i n lt free. l.invariant.freed i n (omega (arith, lt, kept.slots)) (c.in_ok-v.ensures.freer i n lt free);
    }

pub returns-clause-ok : goal.returns-clause-ok
returns-clause-ok c =
    let l = c.loop-i in
    let now : Env = c.args.self.now in
    let ts = row_at now.heap.names c.args.nodes.now c.args.row in
    let all = take_all l.i ts (omega (arith, c.loop-i-test.false, row-length now.heap.names c.args.nodes.now c.args.row c.requires.row)) in
    let stays = l.invariant.stays in
    record {
      are = subst (λ us. AreFor l.self.heap l.values.items (map (bind (over now c.args.base)) us)) all l.invariant.are;
      extends = stays.extends;
      slots = stays.slots;
      count = stays.count;
    }
