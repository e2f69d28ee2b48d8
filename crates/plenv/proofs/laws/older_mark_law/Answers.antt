use Rattle.plenv.proofs.Cuts.{cut-cut, IsMark-cut}
use Rattle.plenv.proofs.laws.older_mark_law.Goals as goal

pub returns-clause-mark : goal.returns-clause-mark
returns-clause-mark c = IsMark-cut

pub returns-clause-environment : goal.returns-clause-environment
returns-clause-environment c = cut-cut
