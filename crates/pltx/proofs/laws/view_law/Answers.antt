use Rattle.pltx.proofs.Layers.{view-layers}
use Rattle.pltx.proofs.laws.view_law.Goals as goal

pub returns : goal.returns
returns c = view-layers
