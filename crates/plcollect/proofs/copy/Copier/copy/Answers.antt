use Rattle.std.proofs.Common.{◌∙◌, length, ap}
use Rattle.plcells.specs.Store.{value}
use Rattle.plcollect.proofs.Numbering.{copy-made}
use Rattle.plcollect.proofs.copy.Copier.copy.Goals as goal

pub returns-in-Some : goal.returns-in-Some
returns-in-Some c =
    let t = value c.args.heap.now c.args.v in
    let spelled = rw c.clear.ensures.items at c.in_ok-take_nodes.ensures.nodes in
    copy-made t c.take_nodes.new.nodes.items c.number_all.new.nodes.items c.reverse.new.self.items c.in-Some.count spelled c.in_ok-take_nodes.ensures.fit c.in_ok-number_all.ensures.nodes c.reverse.ensures.items (c.in-Some.ensures ∙ ap length c.in_ok-number_all.ensures.seen)
