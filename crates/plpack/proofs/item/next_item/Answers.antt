use Rattle.plpack.proofs.Wholes.{none_found}
use Rattle.plpack.proofs.item.next_item.Goals as goal

pub returns-in_default : goal.returns-in_default
returns-in_default c = none_found c.args.seen c.args.bytes.now c.requires (rw c.in_default.is at c.in_ok-node.ensures)
