use Rattle.plviews.proofs.Seen.{from-start}
use Rattle.plviews.proofs.laws.start_law.Goals as goal

pub returns : goal.returns
returns c = from-start
