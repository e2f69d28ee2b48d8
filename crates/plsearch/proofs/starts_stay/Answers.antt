use Rattle.plsearch.proofs.Starts.{starts-stay, main-starts}
use Rattle.plsearch.proofs.starts_stay.Goals as goal

pub returns-clause-stays : goal.returns-clause-stays
returns-clause-stays c = starts-stay

pub returns-clause-begins : goal.returns-clause-begins
returns-clause-begins c = main-starts
