use Rattle.std.proofs.Common.{◌∙◌, ap, subst, sym}
use Rattle.plterm.specs.Reading.{tree_of, tree_of-spelling, IsTerm}
use Rattle.plterm.proofs.Forests.{IsTerm-spelling}
use Rattle.plcells.specs.Store.{value}
use Rattle.plcells.proofs.heap.Heap.take.Goals as goal

pub from_prefix-requires : goal.from_prefix-requires
from_prefix-requires c =
    let t = value c.args.self.now c.args.v in
    let spelled = rw c.in_ok-nodes.ensures.items at c.in_ok-take_nodes.ensures.nodes in
    subst IsTerm (sym spelled) (IsTerm-spelling t c.in_ok-take_nodes.ensures.fit)

pub returns : goal.returns
returns c =
    let t = value c.args.self.now c.args.v in
    let spelled = rw c.in_ok-nodes.ensures.items at c.in_ok-take_nodes.ensures.nodes in
    c.from_prefix.ensures ∙ ap tree_of spelled ∙ tree_of-spelling t
