use Rattle.pllaws.proofs.Spacing.{clause_read}
use Rattle.pllaws.proofs.spaces.words_are_read.Goals as goal

pub returns : goal.returns
returns c = clause_read
