use Rattle.plcells.proofs.Cuts.{cut-cut, IsMark-cut}
use Rattle.plcells.proofs.laws.older_mark_law.Goals as goal

pub returns-clause-mark : goal.returns-clause-mark
returns-clause-mark c = IsMark-cut

pub returns-clause-heap : goal.returns-clause-heap
returns-clause-heap c = cut-cut
