use Rattle.pllinks.proofs.Changing.{lists_agree}
use Rattle.pllinks.proofs.lists_agree.Goals as goal

pub returns : goal.returns
returns c = lists_agree
