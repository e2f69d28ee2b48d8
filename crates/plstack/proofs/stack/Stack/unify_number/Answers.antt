use Rattle.std.specs.Prelude.{◌≡◌, true, false, None, IfOk}
use Rattle.std.proofs.Common.{subst, sym}
use Rattle.plsubst.specs.Subst.{bind}
use Rattle.plsubst.specs.Unify.{unify}
use Rattle.plcells.specs.Store.{value}
use Rattle.plenv.specs.Env.{over}
use Rattle.plexpression.specs.Nodes.{IsOffHeap}
use Rattle.plstack.specs.State.{UnifiesTerms}
use Rattle.plstack.proofs.Stacks.{inside}
use Rattle.plstack.proofs.Growing.{err-extends, number-same, number-stack, number-unified}
use Rattle.plstack.proofs.Arguments.{one-node, one-is}
use Rattle.plstack.proofs.stack.Stack.unify_number.Goals as goal

pub unify_number-fits-requires-clause-node : goal.unify_number-fits-requires-clause-node
unify_number-fits-requires-clause-node c =
    let is_one = rw (← c.self.view_is) at c.requires.node in
    one-node (inside c.self.inside) c.self.invariant.0 (rw c.code.ensures at c.nodes.ensures.laid) c.nodes.result.now (rw c.code.ensures at c.nodes.ensures.is) c.args.run.now c.args.node is_one.0 is_one.1

pub invariant_of-self : goal.invariant_of-self
invariant_of-self c =
    let s = inside c.self.inside in
    number-stack s c.self.inside.depth c.unify_number-fits.new.env _ _ c.heap-2.ensures.env c.self.invariant c.unify_number-fits.result c.unify_number-fits.ensures.yes c.unify_number-fits.ensures.same c.unify_number-fits.ensures.err

pub returns-clause-yes : goal.returns-clause-yes
returns-clause-yes c = rw (← c.self.view_is) (λ t is_one.
    let s = inside c.self.inside in
    let e = c.unify_number-fits.new.env in
    let all = number-unified s c.self.inside.depth e _ _ c.heap-2.ensures.env c.self.invariant c.unify_number-fits.result c.unify_number-fits.ensures.yes in
    subst (λ u. IfOk c.unify_number-fits.result (λ fits. fits ≡ true → UnifiesTerms s (record s { env = e }) (bind (over s.env c.args.run.now.base) u) (value s.env.heap c.args.v)))
    (one-is s c.self.invariant.0 (rw c.code.ensures at c.nodes.ensures.laid) c.nodes.result.now (rw c.code.ensures at c.nodes.ensures.is) c.args.run.now c.args.node t is_one) all)

pub returns-clause-no : goal.returns-clause-no
returns-clause-no c = rw (← c.self.view_is) (λ t is_one.
    let s = inside c.self.inside in
    subst (λ u. IfOk c.unify_number-fits.result (λ fits. fits ≡ false → unify (bind (over s.env c.args.run.now.base) u) (value s.env.heap c.args.v) ≡ None))
    (one-is s c.self.invariant.0 (rw c.code.ensures at c.nodes.ensures.laid) c.nodes.result.now (rw c.code.ensures at c.nodes.ensures.is) c.args.run.now c.args.node t is_one) c.unify_number-fits.ensures.no)

pub returns-clause-same : goal.returns-clause-same
returns-clause-same c = rw (← c.self.view_is) (number-same (inside c.self.inside) c.self.inside.depth c.unify_number-fits.new.env c.heap-2.ensures.env c.self.invariant c.unify_number-fits.result c.unify_number-fits.ensures.same)

pub returns-clause-err : goal.returns-clause-err
returns-clause-err c = rw (← c.self.view_is) (err-extends (inside c.self.inside) c.self.inside.depth c.unify_number-fits.new.env c.heap-2.ensures.env c.self.invariant c.unify_number-fits.result c.unify_number-fits.ensures.err)

pub returns-clause-heap : goal.returns-clause-heap
returns-clause-heap c = rw (← c.self.view_is) (λ t is_one off.
    let s = inside c.self.inside in
    let there = one-is s c.self.invariant.0 (rw c.code.ensures at c.nodes.ensures.laid) c.nodes.result.now (rw c.code.ensures at c.nodes.ensures.is) c.args.run.now c.args.node t is_one in
    c.unify_number-fits.ensures.heap (subst (IsOffHeap s.env c.args.run.now.base) (sym there) off))
