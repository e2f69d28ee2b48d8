use Rattle.plterm.proofs.Forests.{list_of-trees}
use Rattle.plclause.proofs.clause.indicator_of.Goals as goal

pub returns-in-Compound : goal.returns-in-Compound
returns-in-Compound c = rw (← c.in-Compound.ensures.shown, list_of-trees c.in-Compound.args, ← c.len.ensures) c.procedure-in-Compound.ensures
