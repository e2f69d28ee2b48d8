use Rattle.plrunlaws.proofs.Standing.{asks-in-turn, stays-else}
use Rattle.plrunlaws.proofs.asks_in_turn.Goals as goal

pub returns-clause-asks : goal.returns-clause-asks
returns-clause-asks c = asks-in-turn

pub returns-clause-stays : goal.returns-clause-stays
returns-clause-stays c = stays-else
