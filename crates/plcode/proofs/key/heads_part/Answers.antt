use Rattle.plcode.proofs.Keys.{heads}
use Rattle.plcode.proofs.key.heads_part.Goals as goal

pub returns : goal.returns
returns c = heads
