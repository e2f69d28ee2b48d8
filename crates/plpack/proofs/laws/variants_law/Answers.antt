use Rattle.plpack.proofs.Prefixes.{variants}
use Rattle.plpack.proofs.laws.variants_law.Goals as goal

pub returns : goal.returns
returns c = variants
