use Rattle.plmachine.proofs.Firsts.{first-told}
use Rattle.plmachine.proofs.sought.told_head.Goals as goal

pub returns-in-Some-clause-there : goal.returns-in-Some-clause-there
returns-in-Some-clause-there c = c.in-Some.ensures.some.fits

pub returns-in-Some-clause-is : goal.returns-in-Some-clause-is
returns-in-Some-clause-is c = first-told c.args.heap.now c.args.goal c.in-Some.head c.in-Some.ensures.some
