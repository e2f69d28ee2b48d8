use Rattle.plstore.proofs.Cutting.{cut-keeps}
use Rattle.plstore.proofs.laws.cut_keeps_law.Goals as goal

pub returns : goal.returns
returns c = cut-keeps
