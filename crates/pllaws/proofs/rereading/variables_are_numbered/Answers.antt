use Rattle.pllaws.proofs.Numbers.{clause_numbered}
use Rattle.pllaws.proofs.rereading.variables_are_numbered.Goals as goal

pub returns : goal.returns
returns c = λ ops style t h. clause_numbered ops style t h
