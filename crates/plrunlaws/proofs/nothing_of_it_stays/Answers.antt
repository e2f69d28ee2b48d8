use Rattle.plrunlaws.proofs.Unended.{ends-or-lasts, nothing-of-it-stays}
use Rattle.plrunlaws.proofs.nothing_of_it_stays.Goals as goal

pub returns-clause-either : goal.returns-clause-either
returns-clause-either c = ends-or-lasts

pub returns-clause-inside : goal.returns-clause-inside
returns-clause-inside c = nothing-of-it-stays
