use Rattle.std.proofs.Common.{◌≡◌, sym, subst, None}
use Rattle.plterm.specs.Tree.{Tree}
use Rattle.plsubst.specs.Subst.{bind}
use Rattle.plsubst.specs.Unify.{unify}
use Rattle.plcells.specs.Store.{Store, value}
use Rattle.plenv.specs.Env.{over}
use Rattle.plenv.specs.Changes.{Unifies}
use Rattle.plenv.specs.Rows.{tree_at}
use Rattle.plhead.specs.Fitting.{Comes, IsVerdict}
use Rattle.plhead.proofs.Slots.{keeps-refl}
use Rattle.plhead.proofs.Verdicts.{comes-said, says-comes}
use Rattle.plhead.proofs.head.meet_other.Goals as goal

pub returns-in-Ref : goal.returns-in-Ref
returns-in-Ref c =
    let e = c.args.env.now in
    let new = c.put_and_unify.new.env in
    let nodes = c.args.nodes.now in
    let w = tree_at e.heap.names nodes in
    let u = bind (over e c.args.base) (w c.args.at) in
    let same = subst (λ (h : Store). value h c.root-root.result ≡ value h c.args.v) c.heap.ensures.is c.root-root.ensures.same in
    record {
      comes = subst (Comes e new nodes w (w c.args.at) u (value e.heap c.args.v)) (sym c.verdict_of.ensures)
          (comes-said e new nodes w (w c.args.at) u (value e.heap c.args.v) c.in_ok-put_and_unify.field-0
          (λ q. subst (Unifies e new u) same (c.in_ok-put_and_unify.ensures.yes q))
          (λ q. subst (λ (t : Tree). unify u t ≡ None) same (c.in_ok-put_and_unify.ensures.no q)));
      keeps = c.in_ok-put_and_unify.ensures.keeps;
    }

pub returns : goal.returns
returns c =
    let e = c.args.env.now in
    let nodes = c.args.nodes.now in
    let w = tree_at e.heap.names nodes in
    let same = subst (λ (h : Store). value h c.root-root.result ≡ value h c.args.v) c.heap.ensures.is c.root-root.ensures.same in
    let says = subst (λ (h : Store). IsVerdict h nodes (tree_at h.names nodes) (tree_at h.names nodes c.args.at) (value h c.root-root.result) c.compare.result) c.heap-2.ensures.is c.compare.ensures in
    record {
      comes = says-comes e nodes w (over e c.args.base) (w c.args.at) (value e.heap c.args.v) c.compare.result
          (subst (λ (t : Tree). IsVerdict e.heap nodes w (w c.args.at) t c.compare.result) same says);
      keeps = keeps-refl e;
    }
