use Rattle.plworld.proofs.Push.{ordered, under-is}
use Rattle.plworld.proofs.laws.places_law.Goals as goal

pub returns : goal.returns
returns c = record { rises = λ h. (ordered h).rises; under = under-is }
