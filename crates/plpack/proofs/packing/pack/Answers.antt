use Rattle.std.proofs.Common.{arith}
use Rattle.plpack.proofs.Numberings.{packs_step, packs_end, packs_limits}
use Rattle.plpack.proofs.packing.pack.Goals as goal

pub nodes-preserved : goal.nodes-preserved
nodes-preserved c = packs_step _ _ _ _ _ _ _ _ c.nodes.invariant c.in-Some.ensures c.in_ok-put_node.ensures.bytes c.in_ok-put_node.ensures.seen

pub returns-clause-bytes : goal.returns-clause-bytes
returns-clause-bytes c = packs_end _ _ _ _ c.nodes.invariant c.in_default.ensures.0

pub returns-clause-limits : goal.returns-clause-limits
returns-clause-limits c = packs_limits _ _ _ _ c.nodes.invariant c.in_default.ensures.0 (omega (arith, c.nodes.out.ok.0))
