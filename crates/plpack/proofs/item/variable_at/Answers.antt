use Rattle.plpack.proofs.Nodes.{no_variable}
use Rattle.plpack.proofs.item.variable_at.Goals as goal

pub returns-in_err-number : goal.returns-in_err-number
returns-in_err-number c = rw c.from_residual.ensures (no_variable c.args.bytes.now c.in_err-number.ensures)
