use Rattle.plworld.proofs.Push.{walk-at}
use Rattle.plworld.proofs.laws.walk_law.Goals as goal

pub returns : goal.returns
returns c = walk-at
