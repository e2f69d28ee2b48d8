-- src/laws.rt:12:1
use Rattle.plsolver.proofs.Asking.{asks_no_more}
use Rattle.plsolver.proofs.laws.asks_no_more.Goals as goal

pub returns : goal.returns
returns c = asks_no_more
