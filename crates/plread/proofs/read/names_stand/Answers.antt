use Rattle.plread.proofs.Named.{names_stand}
use Rattle.plread.proofs.read.names_stand.Goals as goal

pub returns : goal.returns
returns c = names_stand
