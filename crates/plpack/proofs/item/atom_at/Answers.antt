use Rattle.plpack.proofs.Nodes.{no_atom}
use Rattle.plpack.proofs.item.atom_at.Goals as goal

pub returns-in_default : goal.returns-in_default
returns-in_default c = no_atom c.args.bytes.now c.in_default.ensures
