use Rattle.plstore.proofs.Keys.{passed-over}
use Rattle.plstore.proofs.laws.passed_over_law.Goals as goal

pub returns : goal.returns
returns c = passed-over
