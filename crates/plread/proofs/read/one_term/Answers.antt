use Rattle.plread.proofs.Unique.{spelled_once}
use Rattle.plread.proofs.read.one_term.Goals as goal

pub returns : goal.returns
returns c = spelled_once
