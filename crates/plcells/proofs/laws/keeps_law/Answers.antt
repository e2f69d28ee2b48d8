use Rattle.plcells.proofs.Kept.{Keeps-refl, Keeps-trans}
use Rattle.plcells.proofs.laws.keeps_law.Goals as goal

pub returns-clause-none : goal.returns-clause-none
returns-clause-none c = Keeps-refl

pub returns-clause-both : goal.returns-clause-both
returns-clause-both c = Keeps-trans
