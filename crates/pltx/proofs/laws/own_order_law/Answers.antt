use Rattle.pltx.proofs.Layers.{own-layers}
use Rattle.pltx.proofs.laws.own_order_law.Goals as goal

pub returns : goal.returns
returns c = own-layers
