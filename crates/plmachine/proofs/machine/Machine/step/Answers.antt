use Rattle.std.proofs.Common.{suc, ap, subst, refl, sym, ◌∙◌}
use Rattle.plcode.specs.Steps.{IsFor}
use Rattle.plstack.specs.State.{goals_of, kinds_in}
use Rattle.plmachine.specs.Lists.{at_level, elements_of, branch_at}
use Rattle.plmachine.specs.Machine.{below_in, depth_of, local_of}
use Rattle.plmachine.proofs.Moves.{moved-views, on_ok_map}
use Rattle.plmachine.specs.Selected.{bound_at}
use Rattle.plmachine.proofs.Calculating.{form-arithmetic}
use Rattle.plmachine.proofs.Stepping.{branch-is, branch-level, either-move, plain-node, then-move, then-else-move}
use Rattle.plmachine.proofs.Levels.{goals-fit-in}
use Rattle.plstack.specs.Levels.{FitsIn}
use Rattle.plmachine.proofs.machine.Machine.step.Goals as goal

pub returns-in-Or-clause-ok : goal.returns-in-Or-clause-ok
returns-in-Or-clause-ok c es at =
    let s = c.args.self.now in
    let P = c.args.program.now in
    let r = c.args.run in
    let e = subst (λ o. IsFor s.stack.basis.code.text r.position o c.args.step.goal at.goal) c.in-Or.is at.is in
    on_ok_map c.either.result (moved-views P s c.either.new.self _ _ (λ v.
    either-move P (below_in v s) s.stack r (depth_of s) (goals_of s.stack c.args.rest) s.stack.env.count (local_of s) at.goal at.is_converted e.left e.right _ _ e.form_is
    (ap (elements_of s.stack) c.branch-left.ensures ∙ branch-is s.stack r at.width at.own at.slots c.in-Or.left e.left e.left_begins.goals)
    (ap (elements_of s.stack) c.branch-right.ensures ∙ branch-is s.stack r at.width at.own at.slots c.in-Or.right e.right e.right_begins.goals))) (c.either.ensures.ok c.args.program.now)

pub returns-in-IfThen-clause-ok : goal.returns-in-IfThen-clause-ok
returns-in-IfThen-clause-ok c es at =
    let s = c.args.self.now in
    let P = c.args.program.now in
    let r = c.args.run in
    let d = depth_of s in
    let e = subst (λ o. IsFor s.stack.basis.code.text r.position o c.args.step.goal at.goal) c.in-IfThen.is at.is in
    on_ok_map c.then.result (moved-views P s c.then.new.self _ _ (λ v.
    then-move P (below_in v s) s.stack r d (goals_of s.stack c.args.rest) s.stack.env.count (local_of s) at.goal at.is_converted e.condition e.success _ _ e.form_is
    (ap (λ x. elements_of s.stack (at_level (suc d) x)) c.branch-condition.ensures ∙ branch-level s.stack r at.width at.own at.slots c.in-IfThen.condition e.condition e.condition_begins.goals (suc d))
    (ap (elements_of s.stack) c.branch-then.ensures ∙ branch-is s.stack r at.width at.own at.slots c.in-IfThen.then e.success e.success_begins.goals))) (c.then.ensures.ok c.args.program.now c.requires.begun)

pub returns-in-IfThenElse-clause-ok : goal.returns-in-IfThenElse-clause-ok
returns-in-IfThenElse-clause-ok c es at =
    let s = c.args.self.now in
    let P = c.args.program.now in
    let r = c.args.run in
    let d = depth_of s in
    let e = subst (λ o. IsFor s.stack.basis.code.text r.position o c.args.step.goal at.goal) c.in-IfThenElse.is at.is in
    on_ok_map c.then_else.result (moved-views P s c.then_else.new.self _ _ (λ v.
    then-else-move P (below_in v s) s.stack r d (goals_of s.stack c.args.rest) s.stack.env.count (local_of s) at.goal at.is_converted e.condition e.success e.failure _ _ _ e.form_is
    (ap (λ x. elements_of s.stack (at_level (suc d) x)) c.branch-condition-in-IfThenElse.ensures ∙ branch-level s.stack r at.width at.own at.slots c.in-IfThenElse.condition e.condition e.condition_begins.goals (suc d))
    (ap (elements_of s.stack) c.branch-then-in-IfThenElse.ensures ∙ branch-is s.stack r at.width at.own at.slots c.in-IfThenElse.then e.success e.success_begins.goals)
    (ap (elements_of s.stack) c.branch-other.ensures ∙ branch-is s.stack r at.width at.own at.slots c.in-IfThenElse.other e.failure e.failure_begins.goals))) (c.then_else.ensures.ok c.args.program.now)

pub returns-in-Goal-clause-ok : goal.returns-in-Goal-clause-ok
returns-in-Goal-clause-ok c es at =
    let s = c.args.self.now.stack in
    let node = plain-node s.basis.code.text c.args.run.position c.args.step.op c.args.step.goal at.goal at.is c.in-Goal.is in
    c.solve.ensures.ok (bound_at s c.args.run at.goal) (at.goal, record { stand = node; width = at.width; below = at.below; own = at.own; slots = at.slots }, refl)

pub solve-requires : goal.solve-requires
solve-requires c =
    let s = c.args.self.now.stack in
    let at = c.requires.at.1 in
    let node = plain-node s.basis.code.text c.args.run.position c.args.step.op c.args.step.goal at.goal at.is c.in-Goal.is in
    record {
      begun = c.requires.begun;
      visits = c.requires.visits;
      source = (bound_at s c.args.run at.goal, (at.goal, record { stand = node; width = at.width; below = at.below; own = at.own; slots = at.slots }, refl));
      rest = at.there;
      level = subst (FitsIn (kinds_in s)) at.goals at.levels;
      tied = c.requires.tied;
    }

pub unreachable-requires : goal.unreachable-requires
unreachable-requires c = subst (λ o. IsFor c.args.self.now.stack.basis.code.text c.args.run.position o c.args.step.goal c.requires.at.1.goal) c.in-Proceed.is c.requires.at.1.is

pub either-requires-clause-first_fits : goal.either-requires-clause-first_fits
either-requires-clause-first_fits c =
    let s = c.args.self.now.stack in
    let at = c.requires.at.1 in
    let p = subst (FitsIn (kinds_in s)) at.goals at.levels in
    rw c.branch-left.ensures (goals-fit-in s (kinds_in s) c.args.run.level (branch_at c.args.run c.in-Or.left) tt (goals_of s c.args.rest) p)

pub either-requires-clause-second_fits : goal.either-requires-clause-second_fits
either-requires-clause-second_fits c =
    let s = c.args.self.now.stack in
    let at = c.requires.at.1 in
    let p = subst (FitsIn (kinds_in s)) at.goals at.levels in
    rw c.branch-right.ensures (goals-fit-in s (kinds_in s) c.args.run.level (branch_at c.args.run c.in-Or.right) tt (goals_of s c.args.rest) p)

pub then-requires-clause-level : goal.then-requires-clause-level
then-requires-clause-level c =
    let s = c.args.self.now.stack in
    let at = c.requires.at.1 in
    subst (FitsIn (kinds_in s)) at.goals at.levels

pub then-requires-clause-goals : goal.then-requires-clause-goals
then-requires-clause-goals c = rw c.branch-condition.ensures tt

pub then-requires-clause-then_fits : goal.then-requires-clause-then_fits
then-requires-clause-then_fits c =
    let s = c.args.self.now.stack in
    let at = c.requires.at.1 in
    let p = subst (FitsIn (kinds_in s)) at.goals at.levels in
    rw c.branch-then.ensures (goals-fit-in s (kinds_in s) c.args.run.level (branch_at c.args.run c.in-IfThen.then) tt (goals_of s c.args.rest) p)

pub then_else-requires-clause-goals : goal.then_else-requires-clause-goals
then_else-requires-clause-goals c = rw c.branch-condition-in-IfThenElse.ensures tt

pub then_else-requires-clause-then_fits : goal.then_else-requires-clause-then_fits
then_else-requires-clause-then_fits c =
    let s = c.args.self.now.stack in
    let at = c.requires.at.1 in
    let p = subst (FitsIn (kinds_in s)) at.goals at.levels in
    rw c.branch-then-in-IfThenElse.ensures (goals-fit-in s (kinds_in s) c.args.run.level (branch_at c.args.run c.in-IfThenElse.then) tt (goals_of s c.args.rest) p)

pub then_else-requires-clause-other_fits : goal.then_else-requires-clause-other_fits
then_else-requires-clause-other_fits c =
    let s = c.args.self.now.stack in
    let at = c.requires.at.1 in
    let p = subst (FitsIn (kinds_in s)) at.goals at.levels in
    rw c.branch-other.ensures (goals-fit-in s (kinds_in s) c.args.run.level (branch_at c.args.run c.in-IfThenElse.other) tt (goals_of s c.args.rest) p)

pub returns-in-Goal-clause-heap : goal.returns-in-Goal-clause-heap
returns-in-Goal-clause-heap c es at a needs =
    let s = c.args.self.now.stack in
    let node = plain-node s.basis.code.text c.args.run.position c.args.step.op c.args.step.goal at.goal at.is c.in-Goal.is in
    c.solve.ensures.heap c.args.run c.args.step.goal at.goal a refl (record { stand = node; width = at.width; below = at.below; own = at.own; slots = at.slots }) needs

pub returns-in-Or-clause-heap : goal.returns-in-Or-clause-heap
returns-in-Or-clause-heap c es at a needs =
    let e = subst (λ o. IsFor c.args.self.now.stack.basis.code.text c.args.run.position o c.args.step.goal at.goal) c.in-Or.is at.is in
    let forms = sym e.form_is ∙ form-arithmetic at.goal a in
    absurd (cc)

pub returns-in-IfThen-clause-heap : goal.returns-in-IfThen-clause-heap
returns-in-IfThen-clause-heap c es at a needs =
    let e = subst (λ o. IsFor c.args.self.now.stack.basis.code.text c.args.run.position o c.args.step.goal at.goal) c.in-IfThen.is at.is in
    let forms = sym e.form_is ∙ form-arithmetic at.goal a in
    absurd (cc)

pub returns-in-IfThenElse-clause-heap : goal.returns-in-IfThenElse-clause-heap
returns-in-IfThenElse-clause-heap c es at a needs =
    let e = subst (λ o. IsFor c.args.self.now.stack.basis.code.text c.args.run.position o c.args.step.goal at.goal) c.in-IfThenElse.is at.is in
    let forms = sym e.form_is ∙ form-arithmetic at.goal a in
    absurd (cc)
