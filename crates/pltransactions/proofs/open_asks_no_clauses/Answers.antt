use Rattle.pltransactions.proofs.Transactions.{open-asks-no-clauses, open-answers-stay}
use Rattle.pltransactions.proofs.open_asks_no_clauses.Goals as goal

pub returns-clause-asks : goal.returns-clause-asks
returns-clause-asks c = open-asks-no-clauses

pub returns-clause-stays : goal.returns-clause-stays
returns-clause-stays c = open-answers-stay
