use Rattle.plorder.proofs.Occurring.{values-pushed}
use Rattle.plheaptests.proofs.made.arguments.Goals as goal

pub loop-i-preserved : goal.loop-i-preserved
loop-i-preserved c = values-pushed c.args.heap.now c.loop-i.args.items c.push.new.self.items c.argument.result c.loop-i.invariant c.argument.ensures.fits c.in_ok-push.ensures.items
