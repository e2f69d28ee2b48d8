use Rattle.plviews.proofs.Seen.{rest-journal}
use Rattle.plviews.proofs.laws.journal_rest_law.Goals as goal

pub returns : goal.returns
returns c = rest-journal
