use Rattle.plstore.proofs.Names.{before-ordered}
use Rattle.plstore.proofs.laws.before_ordered_law.Goals as goal

pub returns : goal.returns
returns c = before-ordered
