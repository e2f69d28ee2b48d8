use Rattle.std.proofs.Common.{length, take, reverse, sym, subst, arith}
use Rattle.plterm.specs.Reading.{reading, read}
use Rattle.plcells.proofs.Kept.{Keeps-trans}
use Rattle.plcells.proofs.Nodes.{AreBelow, node-at, below-at, below-tree, reading-at}
use Rattle.plcells.proofs.Putting.{IsPut, put-none, put-length, put-more, values-stay, has-value}
use Rattle.plcells.proofs.heap.Heap.put_all.Goals as goal

pub loop-node-init : goal.loop-node-init
loop-node-init c = rw c.clear.ensures.items (put-none c.args.self.now c.args.values.now)

pub put_node-requires-clause-fits : goal.put_node-requires-clause-fits
put_node-requires-clause-fits c = (node-at c.args.nodes.now c.loop-node.node-index c.node-item.result c.node-item.result c.loop-node-test.true (sym c.node-item.is) c.requires.term.forest).0

pub put_node-requires-clause-room : goal.put_node-requires-clause-room
put_node-requires-clause-room c =
    let l = c.loop-node in
    let n = node-at c.args.nodes.now l.node-index c.node-item.result c.node-item.result c.loop-node-test.true (sym c.node-item.is) c.requires.term.forest in
    omega (arith, n.1, put-length c.args.self.now l.self c.args.values.now l.stack.items (reading (reverse (take l.node-index c.args.nodes.now))) l.invariant)

pub put_node-requires-clause-values : goal.put_node-requires-clause-values
put_node-requires-clause-values c = values-stay c.args.self.now c.loop-node.self c.args.values.now c.loop-node.invariant.adds.preserves c.requires.values

pub put_node-requires-clause-value : goal.put_node-requires-clause-value
put_node-requires-clause-value c =
    let l = c.loop-node in
    let nodes = c.args.nodes.now in
    let n = c.node-item.result in
    let v = length c.args.values.now in
    has-value c.args.values.now n (reading (reverse (take l.node-index nodes))) (below-at v nodes l.node-index n n c.loop-node-test.true (sym c.node-item.is) (below-tree v (reverse nodes) c.requires.term c.requires.below))

pub returns-in_err-put_node-clause-keeps : goal.returns-in_err-put_node-clause-keeps
returns-in_err-put_node-clause-keeps c = Keeps-trans c.args.self.now c.loop-node.self c.put_node.new.self c.loop-node.invariant.adds.preserves.keeps c.in_err-put_node.ensures.keeps

pub loop-node-preserved : goal.loop-node-preserved
loop-node-preserved c =
    let l = c.loop-node in
    let nodes = c.args.nodes.now in
    let vs = c.args.values.now in
    let n = c.node-item.result in
    let ts = reading (reverse (take l.node-index nodes)) in
    let below : AreBelow (length vs) (read n ts) = below-at (length vs) nodes l.node-index n n c.loop-node-test.true (sym c.node-item.is) (below-tree (length vs) (reverse nodes) c.requires.term c.requires.below) in
    subst (IsPut c.args.self.now c.put_node.new.self vs c.put_node.new.stack.items) (reading-at nodes l.node-index n n c.loop-node-test.true (sym c.node-item.is))
    (put-more c.args.self.now l.self c.put_node.new.self vs n l.stack.items c.put_node.new.stack.items ts c.requires.values l.invariant c.in_ok-put_node.ensures.ok below)
