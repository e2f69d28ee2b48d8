use Rattle.pllaws.proofs.Again.{listed_again, apart_again, listed_needs, apart_needs}
use Rattle.pllaws.proofs.Variants.{copied_again}
use Rattle.pllaws.proofs.rereading.clause_is_read.Goals as goal

pub returns-clause-listed : goal.returns-clause-listed
returns-clause-listed c = listed_again

pub returns-clause-apart : goal.returns-clause-apart
returns-clause-apart c = apart_again

pub returns-clause-listed_needs : goal.returns-clause-listed_needs
returns-clause-listed_needs c = listed_needs

pub returns-clause-apart_needs : goal.returns-clause-apart_needs
returns-clause-apart_needs c = apart_needs

pub returns-clause-variant : goal.returns-clause-variant
returns-clause-variant c = copied_again
