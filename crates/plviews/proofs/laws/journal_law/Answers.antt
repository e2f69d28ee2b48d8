use Rattle.plviews.proofs.Seen.{whole-journal}
use Rattle.plviews.proofs.laws.journal_law.Goals as goal

pub returns : goal.returns
returns c = whole-journal
