use Rattle.plworld.proofs.Push.{alive-at}
use Rattle.plworld.proofs.laws.alive_law.Goals as goal

pub returns : goal.returns
returns c = alive-at
