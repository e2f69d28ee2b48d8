use Rattle.pllinks.proofs.Changing.{lists_substitute}
use Rattle.pllinks.proofs.lists_substitute.Goals as goal

pub returns : goal.returns
returns c = lists_substitute
