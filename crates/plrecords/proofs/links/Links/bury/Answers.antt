use Rattle.std.proofs.Common.{sym, subst}
use Rattle.plrecords.specs.Links.{IsLinked}
use Rattle.plrecords.proofs.links.Links.bury.Goals as goal

pub returns-clause-runs : goal.returns-clause-runs
returns-clause-runs c = λ p rs links gone runs. c.bury.ensures.runs p rs (subst (IsLinked p rs) (sym c.as_slice.ensures.value) links) gone runs
