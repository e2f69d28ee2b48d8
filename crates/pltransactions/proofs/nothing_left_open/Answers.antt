use Rattle.pltransactions.proofs.Transactions.{nothing-left-open}
use Rattle.pltransactions.proofs.nothing_left_open.Goals as goal

-- src/lib.rt:1:1
pub returns : goal.returns
returns c = nothing-left-open
