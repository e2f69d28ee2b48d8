use Rattle.plstack.proofs.Stacks.{inside}
use Rattle.plstack.proofs.Arguments.{one-node, pair-found, pair-none}
use Rattle.plstack.proofs.Growing.{if_none, if_some}
use Rattle.plstack.proofs.stack.Stack.pair_at.Goals as goal

pub pair_at-requires : goal.pair_at-requires
pair_at-requires c =
    let s = inside c.self.inside in
    let is_one = rw (← c.self.view_is) at c.requires in
    (s.env, (is_one.0.base, one-node s c.self.invariant.0 (rw c.code.ensures at c.nodes.ensures.laid) c.nodes.result.now (rw c.code.ensures at c.nodes.ensures.is) is_one.0 c.args.node is_one.1.0 is_one.1.1))

pub returns-clause-some : goal.returns-clause-some
returns-clause-some c = rw (← c.self.view_is) (λ r t is_one.
    let s = inside c.self.inside in
    let node = one-node s c.self.invariant.0 (rw c.code.ensures at c.nodes.ensures.laid) c.nodes.result.now (rw c.code.ensures at c.nodes.ensures.is) r c.args.node t is_one in
    if_some _ _ c.pair_at.result (pair-found s c.self.invariant.0 (rw c.code.ensures at c.nodes.ensures.laid) c.nodes.result.now (rw c.code.ensures at c.nodes.ensures.is) r c.args.node t is_one) (c.pair_at.ensures.some s.env r.base node))

pub returns-clause-none : goal.returns-clause-none
returns-clause-none c = rw (← c.self.view_is) (λ r t is_one.
    let s = inside c.self.inside in
    let node = one-node s c.self.invariant.0 (rw c.code.ensures at c.nodes.ensures.laid) c.nodes.result.now (rw c.code.ensures at c.nodes.ensures.is) r c.args.node t is_one in
    if_none c.pair_at.result (pair-none s c.self.invariant.0 (rw c.code.ensures at c.nodes.ensures.laid) c.nodes.result.now (rw c.code.ensures at c.nodes.ensures.is) r c.args.node t is_one) (c.pair_at.ensures.none s.env r.base node))
