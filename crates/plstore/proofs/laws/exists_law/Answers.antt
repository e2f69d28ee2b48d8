use Rattle.plstore.proofs.Whole.{there-is}
use Rattle.plstore.proofs.laws.exists_law.Goals as goal

pub returns : goal.returns
returns c = there-is
