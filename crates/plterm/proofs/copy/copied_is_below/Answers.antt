use Rattle.plterm.proofs.Belows.{AllBelow-copied_0}
use Rattle.plterm.proofs.copy.copied_is_below.Goals as goal

pub returns : goal.returns
returns c = AllBelow-copied_0
