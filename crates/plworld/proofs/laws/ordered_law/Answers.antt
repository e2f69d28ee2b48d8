use Rattle.plworld.proofs.Push.{names-rise}
use Rattle.plworld.proofs.laws.ordered_law.Goals as goal

pub returns : goal.returns
returns c = names-rise
