use Rattle.plops.proofs.Told as told
use Rattle.plops.proofs.table.told_as_declared.Goals as goal

pub returns : goal.returns
returns c = told.told_as_declared
