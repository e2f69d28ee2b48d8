use Rattle.plrunlaws.proofs.InTurn.{each-batch-in-turn}
use Rattle.plrunlaws.proofs.each_batch_in_turn.Goals as goal

pub returns : goal.returns
returns c = each-batch-in-turn
