use Rattle.plstore.proofs.Cutting.{cut-is}
use Rattle.plstore.proofs.laws.cut_law.Goals as goal

pub returns : goal.returns
returns c = cut-is
