use Rattle.std.proofs.Common.{length, refl, subst, ◌∙◌, arith}
use Rattle.std.proofs.lemmas.List.{drop_all, length-map}
use Rattle.plcollect.specs.Copies.{copy_of, copies_of}
use Rattle.plenv.specs.Changes.{PutsVariables}
use Rattle.plenv.proofs.Putting.{Extends-refl, Extends-trans}
use Rattle.plcollect.proofs.Listing.{count-held, part-none, step-below, step-more, step-room, step-values}
use Rattle.plcollect.proofs.list.put_copies.Goals as goal

pub returns-in_err-count-clause-extends : goal.returns-in_err-count-clause-extends
returns-in_err-count-clause-extends c = Extends-refl c.args.env.now

pub returns-in_err-values-clause-extends : goal.returns-in_err-values-clause-extends
returns-in_err-values-clause-extends c = rw c.in_err-values.ensures.err (Extends-refl c.args.env.now)

pub returns-in_err-list-clause-extends : goal.returns-in_err-list-clause-extends
returns-in_err-list-clause-extends c = Extends-trans c.args.env.now c.new_values.new.self c.put_end.new.env c.in_ok-values.ensures.ok.extends c.put_end.ensures.stays.extends

pub loop-at-init : goal.loop-at-init
loop-at-init c =
    let nodes = c.args.nodes.now in
    let hs = c.args.held.now in
    let ts = copies_of nodes hs in
    let vs = c.in_ok-values.values in
    let has = subst (PutsVariables c.args.env.now c.new_values.new.self vs.items) (c.in_ok-count.ensures ∙ count-held nodes hs c.requires) c.in_ok-values.ensures.ok in
    record {
      within = omega arith;
      part = part-none c.args.env.now c.new_values.new.self c.put_end.new.env vs.items c.in_ok-list.list ts (length hs) c.len-before.result has c.in_ok-list.ensures.ok
          (drop_all (length hs) ts (omega (arith, length-map hs (copy_of nodes)))) (omega (arith, c.len-before.ensures, vs.ok.0, has.many));
    }

pub overflow_sub-before : goal.overflow_sub-before
overflow_sub-before c =
    step-room c.args.env.now c.loop-at.env c.in_ok-values.values.items c.in_ok-values.values.items c.loop-at.list c.args.nodes.now c.args.held.now c.loop-at.at c.loop-at.before c.index-held-at.result c.requires c.loop-at-test.true c.loop-at.invariant.within
    c.index-held-at.is c.loop-at.invariant.part refl

pub put_nodes-requires-clause-below : goal.put_nodes-requires-clause-below
put_nodes-requires-clause-below c =
    step-below c.args.env.now c.loop-at.env c.in_ok-values.values.items c.deref.result.now c.loop-at.list c.args.nodes.now c.args.held.now c.loop-at.at c.loop-at.before c.index-held-at.result c.requires c.loop-at-test.true c.loop-at.invariant.within
    c.index-held-at.is c.loop-at.invariant.part c.deref.ensures.value

pub put_nodes-requires-clause-values : goal.put_nodes-requires-clause-values
put_nodes-requires-clause-values c =
    step-values c.args.env.now c.loop-at.env c.in_ok-values.values.items c.deref.result.now c.loop-at.list c.args.nodes.now c.args.held.now c.loop-at.at c.loop-at.before c.index-held-at.result c.requires c.loop-at-test.true c.loop-at.invariant.within
    c.index-held-at.is c.loop-at.invariant.part c.deref.ensures.value

pub returns-in_err-v-clause-extends : goal.returns-in_err-v-clause-extends
returns-in_err-v-clause-extends c = Extends-trans c.args.env.now c.loop-at.env c.put_nodes.new.self c.loop-at.invariant.part.has.extends c.in_err-v.ensures.err.extends

pub returns-in_err-list-2-clause-extends : goal.returns-in_err-list-2-clause-extends
returns-in_err-list-2-clause-extends c =
    Extends-trans c.args.env.now c.loop-at.env c.put_pair.new.env c.loop-at.invariant.part.has.extends
    (Extends-trans c.loop-at.env c.put_nodes.new.self c.put_pair.new.env c.in_ok-v.ensures.ok.extends c.put_pair.ensures.stays.extends)

pub loop-at-preserved : goal.loop-at-preserved
loop-at-preserved c = record {
  within = omega (arith, c.loop-at.invariant.within);
  part = step-more c.args.env.now c.loop-at.env c.in_ok-values.values.items c.deref.result.now c.loop-at.list c.args.nodes.now c.args.held.now c.loop-at.at c.loop-at.before c.index-held-at.result c.requires c.loop-at-test.true c.loop-at.invariant.within
      c.index-held-at.is c.loop-at.invariant.part c.deref.ensures.value c.put_nodes.new.self c.put_pair.new.env c.in_ok-v.v c.in_ok-list-2.list c.in_ok-v.ensures.ok c.in_ok-list-2.ensures.ok;
}
