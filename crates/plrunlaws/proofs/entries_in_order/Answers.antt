use Rattle.plrunlaws.proofs.Standing.{entries-in-order}
use Rattle.plrunlaws.proofs.Ends.{ends-with-its-end}
use Rattle.plrunlaws.proofs.Once.{ends-once}
use Rattle.plrunlaws.proofs.entries_in_order.Goals as goal

pub returns-clause-order : goal.returns-clause-order
returns-clause-order c = entries-in-order

pub returns-clause-ends : goal.returns-clause-ends
returns-clause-ends c = ends-with-its-end

pub returns-clause-alone : goal.returns-clause-alone
returns-clause-alone c = ends-once
