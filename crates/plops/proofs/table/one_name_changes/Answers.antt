use Rattle.plops.proofs.Finds.{here, elsewhere}
use Rattle.plops.proofs.table.one_name_changes.Goals as goal

pub returns : goal.returns
returns c = record { here = here; elsewhere = elsewhere }
