use Rattle.plterm.proofs.Postfixes.{turns_step}
use Rattle.plterm.proofs.postfix.reordered.Goals as goal

pub nodes-preserved : goal.nodes-preserved
nodes-preserved c =
    turns_step _ _ _ _ _ _ _ _ c.in-Some.node _ c.nodes.invariant c.in-Some.ensures.items c.arity-left.ensures c.in_ok-push.ensures.items c.in_ok-close.ensures
