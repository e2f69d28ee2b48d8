use Rattle.plcells.proofs.Marking.{kept-mark}
use Rattle.plcells.proofs.laws.kept_mark_law.Goals as goal

pub returns : goal.returns
returns c = kept-mark
