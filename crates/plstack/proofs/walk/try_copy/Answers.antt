use Rattle.std.proofs.Common.{◌∙◌, sym, subst}
use Rattle.plcells.specs.Store.{AreValues}
use Rattle.plenv.proofs.Keeping.{Keeps-trans}
use Rattle.plstack.specs.Places.{clause_by}
use Rattle.plstack.proofs.Resolving.{same-variables, values-bound, resolved}
use Rattle.plstack.proofs.walk.try_copy.Goals as goal

pub returns-in_err-unify_in_choice-clause-keeps : goal.returns-in_err-unify_in_choice-clause-keeps
returns-in_err-unify_in_choice-clause-keeps c = Keeps-trans _ _ _ c.in_ok-head.ensures.keeps c.unify_in_choice.ensures.keeps

pub returns-then-not-branch-clause-keeps : goal.returns-then-not-branch-clause-keeps
returns-then-not-branch-clause-keeps c = Keeps-trans _ _ _ c.in_ok-head.ensures.keeps c.unify_in_choice.ensures.keeps

pub put_body-requires-clause-many : goal.put_body-requires-clause-many
put_body-requires-clause-many c = rw c.deref.ensures.value (c.in_ok-head.ensures.ok.many ∙ same-variables c.args.next.now.uses c.args.next.now.clause)

pub put_body-requires-clause-fit : goal.put_body-requires-clause-fit
put_body-requires-clause-fit c =
    let u = c.in_ok-unify_in_choice.ensures.yes c.if-not-branch.false in
    subst (AreValues c.unify_in_choice.new.self.heap) (sym c.deref.ensures.value)
    (values-bound c.put_tried.new.env c.unify_in_choice.new.self u.unifier u.made.values c.in_ok-head.head.values.items c.in_ok-head.ensures.ok.fit)

pub returns-in_err-body-clause-keeps : goal.returns-in_err-body-clause-keeps
returns-in_err-body-clause-keeps c = Keeps-trans _ _ _ (Keeps-trans _ _ _ c.in_ok-head.ensures.keeps c.unify_in_choice.ensures.keeps) c.put_body.ensures.keeps

pub returns-clause-some : goal.returns-clause-some
returns-clause-some c =
    let u = c.in_ok-unify_in_choice.ensures.yes c.if-not-branch.false in
    resolved c.args.env.now c.put_tried.new.env (clause_by c.args.next.now.uses c.args.next.now.clause) c.in_ok-head.head.values.items c.in_ok-head.head.value c.in_ok-head.ensures.ok c.args.goal c.requires
    c.unify_in_choice.new.self u c.put_body.new.env c.in_ok-body.body (rw c.deref.ensures.value at c.in_ok-body.ensures.ok)

pub returns-clause-keeps : goal.returns-clause-keeps
returns-clause-keeps c = Keeps-trans _ _ _ (Keeps-trans _ _ _ c.in_ok-head.ensures.keeps c.unify_in_choice.ensures.keeps) c.put_body.ensures.keeps
