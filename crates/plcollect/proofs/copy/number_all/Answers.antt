use Rattle.std.proofs.Common.{refl, arith}
use Rattle.plcollect.proofs.Numbering.{numbered-none, numbered-more, numbered-all}
use Rattle.plcollect.proofs.copy.number_all.Goals as goal

pub loop-i-init : goal.loop-i-init
loop-i-init c = numbered-none c.args.nodes.now.items c.args.seen.now c.requires.none

pub loop-i-preserved : goal.loop-i-preserved
loop-i-preserved c =
    let l = c.loop-i in
    let here = c.index_mut.ensures.value in
    numbered-more c.args.nodes.now.items l.nodes.items _ l.i l.seen c.number_node.new.seen c.index_mut.result.now c.number_node.new.node l.invariant (omega (arith, c.loop-i-test.true, l.invariant.long, c.len-i-end.ensures, c.args.nodes.now.ok.0)) here
    (c.in_ok-number_node.ensures.node) (c.in_ok-number_node.ensures.seen) refl

pub returns-clause-nodes : goal.returns-clause-nodes
returns-clause-nodes c = (numbered-all c.args.nodes.now.items c.loop-i.nodes.items c.loop-i.i c.loop-i.seen c.loop-i.invariant (omega (arith, c.loop-i-test.false, c.loop-i.invariant.long, c.args.nodes.now.ok.0))).0

pub returns-clause-seen : goal.returns-clause-seen
returns-clause-seen c = (numbered-all c.args.nodes.now.items c.loop-i.nodes.items c.loop-i.i c.loop-i.seen c.loop-i.invariant (omega (arith, c.loop-i-test.false, c.loop-i.invariant.long, c.args.nodes.now.ok.0))).1
