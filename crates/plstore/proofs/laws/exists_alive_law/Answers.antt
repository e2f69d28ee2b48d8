use Rattle.plstore.proofs.Names.{exists-alive}
use Rattle.plstore.proofs.laws.exists_alive_law.Goals as goal

pub returns : goal.returns
returns c = exists-alive
