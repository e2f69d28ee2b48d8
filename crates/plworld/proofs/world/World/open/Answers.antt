use Rattle.plworld.proofs.Push.{IsWorld-blank}
use Rattle.plworld.proofs.world.World.open.Goals as goal

pub invariant_of-world : goal.invariant_of-world
invariant_of-world c = IsWorld-blank _ _ _ c.new.ensures.items c.in_ok-standing.ensures c.new-2.ensures
