use Rattle.plstore.proofs.Whole.{clause-is}
use Rattle.plstore.proofs.laws.clause_law.Goals as goal

pub returns : goal.returns
returns c = clause-is
