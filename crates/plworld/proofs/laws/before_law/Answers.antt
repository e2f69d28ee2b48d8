use Rattle.plworld.proofs.Push.{before-is}
use Rattle.plworld.proofs.laws.before_law.Goals as goal

pub returns : goal.returns
returns c = before-is
