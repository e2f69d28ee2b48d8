use Rattle.plstore.proofs.Looking.{look-is}
use Rattle.plstore.proofs.laws.look_law.Goals as goal

pub returns : goal.returns
returns c = look-is
