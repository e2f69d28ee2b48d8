use Rattle.pllaws.proofs.Spacing.{word_told}
use Rattle.pllaws.proofs.spaces.word_is_read.Goals as goal

pub returns : goal.returns
returns c = word_told
