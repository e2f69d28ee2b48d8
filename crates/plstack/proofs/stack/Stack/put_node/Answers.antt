use Rattle.std.proofs.Common.{ap, ◌∙◌}
use Rattle.plsubst.specs.Subst.{bind}
use Rattle.plenv.specs.Env.{over}
use Rattle.plenv.proofs.Terms.{put-stays}
use Rattle.plstack.proofs.Stacks.{inside}
use Rattle.plstack.proofs.Growing.{stack-env, extends-env, if_ok}
use Rattle.plstack.proofs.Arguments.{laid-now, one-within, one-whole, one-covers, one-is}
use Rattle.plstack.proofs.stack.Stack.put_node.Goals as goal

pub put_node-put-requires-clause-laid : goal.put_node-put-requires-clause-laid
put_node-put-requires-clause-laid c = laid-now (inside c.self.inside) c.self.invariant.0 (rw c.code.ensures at c.nodes.ensures.laid) c.nodes.result.now (rw c.code.ensures at c.nodes.ensures.is)

pub put_node-put-requires-clause-packed : goal.put_node-put-requires-clause-packed
put_node-put-requires-clause-packed c = (laid-now (inside c.self.inside) c.self.invariant.0 (rw c.code.ensures at c.nodes.ensures.laid) c.nodes.result.now (rw c.code.ensures at c.nodes.ensures.is)).packed

pub put_node-put-requires-clause-within : goal.put_node-put-requires-clause-within
put_node-put-requires-clause-within c =
    let is_one = rw (← c.self.view_is) at c.requires in
    one-within (inside c.self.inside) c.self.invariant.0 (rw c.code.ensures at c.nodes.ensures.laid) c.nodes.result.now (rw c.code.ensures at c.nodes.ensures.is) c.args.run c.args.node is_one.0 is_one.1

pub put_node-put-requires-clause-whole : goal.put_node-put-requires-clause-whole
put_node-put-requires-clause-whole c =
    let is_one = rw (← c.self.view_is) at c.requires in
    one-whole (inside c.self.inside) c.self.invariant.0 (rw c.code.ensures at c.nodes.ensures.laid) c.nodes.result.now (rw c.code.ensures at c.nodes.ensures.is) c.args.run c.args.node is_one.0 is_one.1

pub put_node-put-requires-clause-covers : goal.put_node-put-requires-clause-covers
put_node-put-requires-clause-covers c =
    let is_one = rw (← c.self.view_is) at c.requires in
    one-covers (inside c.self.inside) c.self.invariant.0 (rw c.code.ensures at c.nodes.ensures.laid) c.nodes.result.now (rw c.code.ensures at c.nodes.ensures.is) c.args.run c.args.node is_one.0 is_one.1

pub invariant_of-self : goal.invariant_of-self
invariant_of-self c =
    let stays = put-stays (inside c.self.inside).env c.put_node-put.new.self _ c.put_node-put.result c.put_node-put.ensures.ok c.put_node-put.ensures.err in
    stack-env (inside c.self.inside) c.self.inside.depth c.put_node-put.new.self stays.extends c.heap-2.ensures.env c.self.invariant

pub returns-clause-stays : goal.returns-clause-stays
returns-clause-stays c =
    let stays = put-stays (inside c.self.inside).env c.put_node-put.new.self _ c.put_node-put.result c.put_node-put.ensures.ok c.put_node-put.ensures.err in
    rw (← c.self.view_is) (extends-env (inside c.self.inside) c.self.inside.depth c.put_node-put.new.self stays.extends c.heap-2.ensures.env c.self.invariant)

pub returns-clause-is : goal.returns-clause-is
returns-clause-is c = rw (← c.self.view_is) (
    let s = inside c.self.inside in
    if_ok _ _ c.put_node-put.result
    (λ v puts t is_one. puts.is ∙ ap (bind (over s.env c.args.run.base)) (one-is s c.self.invariant.0 (rw c.code.ensures at c.nodes.ensures.laid) c.nodes.result.now (rw c.code.ensures at c.nodes.ensures.is) c.args.run c.args.node t is_one))
    c.put_node-put.ensures.ok)
