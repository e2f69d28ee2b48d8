use Rattle.plstore.proofs.Names.{apart-alive}
use Rattle.plstore.proofs.laws.apart_law.Goals as goal

pub returns : goal.returns
returns c = apart-alive
