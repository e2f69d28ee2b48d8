use Rattle.plpack.proofs.Prefixes.{one_fault}
use Rattle.plpack.proofs.laws.fault_law.Goals as goal

pub returns : goal.returns
returns c = one_fault
