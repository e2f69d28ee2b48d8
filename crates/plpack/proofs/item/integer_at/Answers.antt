use Rattle.plpack.proofs.Nodes.{no_integer}
use Rattle.plpack.proofs.item.integer_at.Goals as goal

pub returns-in_err-value : goal.returns-in_err-value
returns-in_err-value c = rw c.from_residual.ensures (no_integer c.args.bytes.now c.in_err-value.ensures)
