use Rattle.std.proofs.Common.{◌∙◌, ◌∷◌, suc, ap, sym, subst, Some}
use Rattle.plclause.specs.Conversion.{converted}
use Rattle.plcells.specs.Store.{term}
use Rattle.plgoals.specs.Goals.{IsKind}
use Rattle.plgoals.proofs.Walking.{AllOwn, left_terms, left-popped, left-opened, values-popped, values-opened, lighter-popped, lighter-opened, own-opened}
use Rattle.plgoals.proofs.goal.is_own_goal.Goals as goal

pub kind_of-requires : goal.kind_of-requires
kind_of-requires c = (values-popped c.args.heap.now c.loop-w.stack.items c.pop.new.self.items c.in-Some.w c.loop-w.invariant.values c.in-Some.ensures.items).1

pub loop-w-smaller-in-Goal : goal.loop-w-smaller-in-Goal
loop-w-smaller-in-Goal c = lighter-popped c.args.heap.now c.loop-w.stack.items c.pop.new.self.items c.in-Some.w c.in-Some.ensures.items

pub loop-w-preserved-in-Goal : goal.loop-w-preserved-in-Goal
unfolding IsKind
loop-w-preserved-in-Goal c =
    let h = c.args.heap.now in
    let rest = c.pop.new.self.items in
    let e = c.in-Some.ensures.items in
    record {
      values = (values-popped h c.loop-w.stack.items rest c.in-Some.w c.loop-w.invariant.values e).0;
      owns = λ own. c.loop-w.invariant.owns (subst AllOwn (sym (left-popped h c.loop-w.stack.items rest c.in-Some.w e)) (c.in-Goal.ensures.2, own));
    }

pub push_goals-requires : goal.push_goals-requires
unfolding IsKind
push_goals-requires c = c.in-Construct.ensures.1

pub loop-w-smaller : goal.loop-w-smaller
unfolding IsKind
loop-w-smaller c =
    lighter-opened c.args.heap.now c.loop-w.stack.items c.pop.new.self.items c.push_goals.new.stack.items c.in-Some.w c.in-Construct.p c.in-Some.ensures.items c.in-Construct.ensures.0 c.in-Construct.ensures.1
    c.in_ok-push_goals-in-Construct.ensures

pub loop-w-preserved : goal.loop-w-preserved
unfolding IsKind
loop-w-preserved c =
    let h = c.args.heap.now in
    let rest = c.pop.new.self.items in
    let after = c.push_goals.new.stack.items in
    let p = c.in-Construct.p in
    let e = c.in-Some.ensures.items in
    let is = c.in-Construct.ensures.0 in
    let opens = c.in_ok-push_goals-in-Construct.ensures in
    record {
      values = values-opened h p rest after (values-popped h c.loop-w.stack.items rest c.in-Some.w c.loop-w.invariant.values e).0 opens;
      owns = λ own.
          let both : AllOwn (term h (suc p) ∷ term h (suc (suc p)) ∷ left_terms h rest) = subst AllOwn (left-opened h p rest after opens) own in
          let this = ap converted is ∙ own-opened h p (left_terms h rest) c.in-Construct.ensures.1 both ∙ ap Some (sym is) in
          c.loop-w.invariant.owns (subst AllOwn (sym (left-popped h c.loop-w.stack.items rest c.in-Some.w e)) (this, both.1.1));
    }
