use Rattle.plstore.proofs.Whole.{walk-is}
use Rattle.plstore.proofs.laws.walk_law.Goals as goal

pub returns : goal.returns
returns c = walk-is
