use Rattle.plworld.proofs.Push.{view-stays}
use Rattle.plworld.proofs.laws.view_stays_law.Goals as goal

pub returns : goal.returns
returns c = view-stays
