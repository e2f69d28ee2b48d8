use Rattle.pllaws.proofs.Says.{clause_told}
use Rattle.pllaws.proofs.rereading.words_tell_signs.Goals as goal

pub returns : goal.returns
returns c = λ ops w style plain t h b. clause_told ops style w plain t h b
