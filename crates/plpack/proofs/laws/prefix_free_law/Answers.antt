use Rattle.plpack.proofs.Prefixes.{prefix_free}
use Rattle.plpack.proofs.laws.prefix_free_law.Goals as goal

pub returns : goal.returns
returns c = prefix_free
