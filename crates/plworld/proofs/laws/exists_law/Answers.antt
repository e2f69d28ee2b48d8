use Rattle.plworld.proofs.Push.{there-at}
use Rattle.plworld.proofs.laws.exists_law.Goals as goal

pub returns : goal.returns
returns c = there-at
