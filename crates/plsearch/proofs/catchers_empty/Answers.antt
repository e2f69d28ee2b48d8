use Rattle.plsearch.proofs.Cuts.{catchers-empty}
use Rattle.plsearch.proofs.catchers_empty.Goals as goal

-- src/lib.rt:43:1
pub returns : goal.returns
returns c = catchers-empty
