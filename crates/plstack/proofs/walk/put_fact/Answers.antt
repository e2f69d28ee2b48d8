use Rattle.plenv.proofs.Keeping.{Keeps-trans}
use Rattle.plstack.proofs.Resolving.{puts-fact}
use Rattle.plstack.proofs.walk.put_fact.Goals as goal

pub returns-in_err-value-clause-keeps : goal.returns-in_err-value-clause-keeps
returns-in_err-value-clause-keeps c =
    Keeps-trans _ _ _ (Keeps-trans _ _ _ c.in_ok-head.ensures.keeps c.in_ok-body.ensures.ok.extends.keeps) c.in_err-value.ensures.err.extends.keeps

pub returns-clause-ok : goal.returns-clause-ok
returns-clause-ok c =
    puts-fact c.args.env.now c.put_head.new.env c.put_told.new.env c.put_clause.new.env c.args.clause.now c.in_ok-head.head.values.items c.in_ok-head.head.value c.in_ok-body.body c.in_ok-value.value
    c.in_ok-head.ensures.ok c.body.ensures.below (rw (c.body.ensures.value, c.deref.ensures.value) at c.in_ok-body.ensures.ok) c.in_ok-value.ensures.ok

pub returns-clause-keeps : goal.returns-clause-keeps
returns-clause-keeps c =
    Keeps-trans _ _ _ (Keeps-trans _ _ _ c.in_ok-head.ensures.keeps c.in_ok-body.ensures.ok.extends.keeps) c.in_ok-value.ensures.ok.extends.keeps
