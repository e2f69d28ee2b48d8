use Rattle.pltx.proofs.Layers.{living-layers}
use Rattle.pltx.proofs.laws.living_law.Goals as goal

pub returns : goal.returns
returns c = living-layers
