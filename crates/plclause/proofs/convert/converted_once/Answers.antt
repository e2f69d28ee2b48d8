use Rattle.plclause.proofs.Conversions.{converted_again}
use Rattle.plclause.proofs.convert.converted_once.Goals as goal

pub returns : goal.returns
returns c = converted_again
