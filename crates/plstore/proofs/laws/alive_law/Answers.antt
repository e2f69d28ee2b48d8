use Rattle.plstore.proofs.Whole.{here-is}
use Rattle.plstore.proofs.laws.alive_law.Goals as goal

pub returns : goal.returns
returns c = here-is
