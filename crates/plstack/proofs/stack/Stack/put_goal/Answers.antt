use Rattle.std.proofs.Common.{ap, sym, ◌∙◌, subst}
use Rattle.plsubst.specs.Subst.{bind}
use Rattle.plenv.specs.Env.{over}
use Rattle.plgoals.specs.Callables.{IsNoGoal}
use Rattle.plstack.proofs.Stacks.{inside}
use Rattle.plstack.proofs.Finding.{if_some, if_none}
use Rattle.plstack.proofs.Growing.{stack-env, extends-env, if_ok}
use Rattle.plstack.proofs.Arguments.{laid-now, one-within, one-whole, one-covers, one-is, arguments-stay}
use Rattle.plstack.proofs.stack.Stack.put_goal.Goals as goal

pub put_goal-put-requires-clause-laid : goal.put_goal-put-requires-clause-laid
put_goal-put-requires-clause-laid c = laid-now (inside c.self.inside) c.self.invariant.0 (rw c.code.ensures at c.nodes.ensures.laid) c.nodes.result.now (rw c.code.ensures at c.nodes.ensures.is)

pub put_goal-put-requires-clause-within : goal.put_goal-put-requires-clause-within
put_goal-put-requires-clause-within c =
    let is_one = rw (← c.self.view_is) at c.requires in
    one-within (inside c.self.inside) c.self.invariant.0 (rw c.code.ensures at c.nodes.ensures.laid) c.nodes.result.now (rw c.code.ensures at c.nodes.ensures.is) c.args.run c.args.node is_one.0 is_one.1

pub put_goal-put-requires-clause-whole : goal.put_goal-put-requires-clause-whole
put_goal-put-requires-clause-whole c =
    let is_one = rw (← c.self.view_is) at c.requires in
    one-whole (inside c.self.inside) c.self.invariant.0 (rw c.code.ensures at c.nodes.ensures.laid) c.nodes.result.now (rw c.code.ensures at c.nodes.ensures.is) c.args.run c.args.node is_one.0 is_one.1

pub put_goal-put-requires-clause-covers : goal.put_goal-put-requires-clause-covers
put_goal-put-requires-clause-covers c =
    let is_one = rw (← c.self.view_is) at c.requires in
    one-covers (inside c.self.inside) c.self.invariant.0 (rw c.code.ensures at c.nodes.ensures.laid) c.nodes.result.now (rw c.code.ensures at c.nodes.ensures.is) c.args.run c.args.node is_one.0 is_one.1

pub invariant_of-self : goal.invariant_of-self
invariant_of-self c = stack-env (inside c.self.inside) c.self.inside.depth c.put_goal-put.new.self c.put_goal-put.ensures.stays.extends c.heap-2.ensures.env c.self.invariant

pub returns-clause-stays : goal.returns-clause-stays
returns-clause-stays c = rw (← c.self.view_is) (extends-env (inside c.self.inside) c.self.inside.depth c.put_goal-put.new.self c.put_goal-put.ensures.stays.extends c.heap-2.ensures.env c.self.invariant)

pub returns-clause-arguments : goal.returns-clause-arguments
returns-clause-arguments c = rw (← c.self.view_is) (arguments-stay (inside c.self.inside) c.put_goal-put.new.self c.put_goal-put.ensures.stays.extends)

pub returns-clause-is : goal.returns-clause-is
returns-clause-is c = rw (← c.self.view_is) (
    let s = inside c.self.inside in
    if_ok _ _ c.put_goal-put.result
    (λ found some. if_some _ _ found
    (λ n same t is_one. ap (bind (over s.env c.args.run.base)) (sym (one-is s c.self.invariant.0 (rw c.code.ensures at c.nodes.ensures.laid) c.nodes.result.now (rw c.code.ensures at c.nodes.ensures.is) c.args.run c.args.node t is_one)) ∙ same) some)
    c.put_goal-put.ensures.is)

pub returns-clause-none : goal.returns-clause-none
returns-clause-none c = rw (← c.self.view_is) (
    let s = inside c.self.inside in
    if_ok _ _ c.put_goal-put.result
    (λ found none. if_none _ _ found
    (λ no t is_one. subst (λ u. IsNoGoal (bind (over s.env c.args.run.base) u)) (one-is s c.self.invariant.0 (rw c.code.ensures at c.nodes.ensures.laid) c.nodes.result.now (rw c.code.ensures at c.nodes.ensures.is) c.args.run c.args.node t is_one) no) none)
    c.put_goal-put.ensures.none)
