use Rattle.plcode.proofs.Keys.{part}
use Rattle.plcode.proofs.key.keys_part.Goals as goal

pub returns : goal.returns
returns c = part
