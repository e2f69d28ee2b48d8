use Rattle.pltransactions.proofs.Transactions.{open-have-ends}
use Rattle.pltransactions.proofs.open_have_ends.Goals as goal

-- src/lib.rt:1:1
pub returns-clause-lists : goal.returns-clause-lists
returns-clause-lists c = open-have-ends
