use Rattle.std.proofs.Common.{ap, ◌∙◌}
use Rattle.plsubst.specs.Subst.{bind}
use Rattle.plarith.specs.Evaluation.{eval}
use Rattle.plenv.specs.Env.{over}
use Rattle.plstack.proofs.Stacks.{inside}
use Rattle.plstack.proofs.Growing.{if_ok}
use Rattle.plstack.proofs.Arguments.{laid-now, one-within, one-whole, one-covers, one-is}
use Rattle.plstack.proofs.stack.Stack.eval_node.Goals as goal

pub eval_node-requires-clause-laid : goal.eval_node-requires-clause-laid
eval_node-requires-clause-laid c = laid-now (inside c.self.inside) c.self.invariant.0 (rw c.code.ensures at c.nodes.ensures.laid) c.nodes.result.now (rw c.code.ensures at c.nodes.ensures.is)

pub eval_node-requires-clause-within : goal.eval_node-requires-clause-within
eval_node-requires-clause-within c =
    let is_one = rw (← c.self.view_is) at c.requires in
    one-within (inside c.self.inside) c.self.invariant.0 (rw c.code.ensures at c.nodes.ensures.laid) c.nodes.result.now (rw c.code.ensures at c.nodes.ensures.is) c.args.run.now c.args.node is_one.0 is_one.1

pub eval_node-requires-clause-whole : goal.eval_node-requires-clause-whole
eval_node-requires-clause-whole c =
    let is_one = rw (← c.self.view_is) at c.requires in
    one-whole (inside c.self.inside) c.self.invariant.0 (rw c.code.ensures at c.nodes.ensures.laid) c.nodes.result.now (rw c.code.ensures at c.nodes.ensures.is) c.args.run.now c.args.node is_one.0 is_one.1

pub eval_node-requires-clause-covers : goal.eval_node-requires-clause-covers
eval_node-requires-clause-covers c =
    let is_one = rw (← c.self.view_is) at c.requires in
    one-covers (inside c.self.inside) c.self.invariant.0 (rw c.code.ensures at c.nodes.ensures.laid) c.nodes.result.now (rw c.code.ensures at c.nodes.ensures.is) c.args.run.now c.args.node is_one.0 is_one.1

pub returns : goal.returns
returns c = rw (← c.self.view_is) (λ t is_one.
    let s = inside c.self.inside in
    if_ok _ _ c.eval_node.result
    (λ found is. is ∙ ap (λ u. eval (bind (over s.env c.args.run.now.base) u)) (one-is s c.self.invariant.0 (rw c.code.ensures at c.nodes.ensures.laid) c.nodes.result.now (rw c.code.ensures at c.nodes.ensures.is) c.args.run.now c.args.node t is_one))
    c.eval_node.ensures)
