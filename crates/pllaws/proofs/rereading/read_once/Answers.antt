use Rattle.pllaws.proofs.Again.{read_once}
use Rattle.pllaws.proofs.rereading.read_once.Goals as goal

pub returns : goal.returns
returns c = read_once
