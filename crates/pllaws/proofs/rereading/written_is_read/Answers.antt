use Rattle.pllaws.proofs.Back.{clause_back}
use Rattle.pllaws.proofs.Needed.{clause_needs}
use Rattle.pllaws.proofs.rereading.written_is_read.Goals as goal

pub returns-clause-spelled : goal.returns-clause-spelled
returns-clause-spelled c = λ ops w style t h levels enough. clause_back ops style w t h levels enough

pub returns-clause-needed : goal.returns-clause-needed
returns-clause-needed c = λ ops w style t h levels u spelled. clause_needs ops style w t h levels u spelled
