use Rattle.plenv.proofs.Renaming.{IsMark-kept}
use Rattle.plenv.proofs.laws.kept_mark_law.Goals as goal

pub returns : goal.returns
returns c = IsMark-kept
