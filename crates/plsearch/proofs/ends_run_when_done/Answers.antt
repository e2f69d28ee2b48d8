use Rattle.plsearch.proofs.Halting.{laws}
use Rattle.plsearch.proofs.ends_run_when_done.Goals as goal

pub returns : goal.returns
returns c = laws
