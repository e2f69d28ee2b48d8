use Rattle.pllaws.proofs.Terms.{term_read}
use Rattle.pllaws.proofs.spaces.term_is_read.Goals as goal

pub returns : goal.returns
returns c = term_read
