use Rattle.plstore.proofs.Whole.{walk-keeps-on}
use Rattle.plstore.proofs.laws.walk_stays_law.Goals as goal

pub returns : goal.returns
returns c = walk-keeps-on
