use Rattle.plstore.proofs.Names.{tells-alive}
use Rattle.plstore.proofs.laws.tells_law.Goals as goal

pub returns : goal.returns
returns c = tells-alive
