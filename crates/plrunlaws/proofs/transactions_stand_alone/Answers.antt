use Rattle.plrunlaws.proofs.Transactions.{transactions-stand-alone}
use Rattle.plrunlaws.proofs.transactions_stand_alone.Goals as goal

pub returns : goal.returns
returns c = transactions-stand-alone
