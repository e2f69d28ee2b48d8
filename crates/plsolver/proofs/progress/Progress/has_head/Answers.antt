use Rattle.plsolver.proofs.Keeping.{put-stays}
use Rattle.plsolver.proofs.progress.Progress.has_head.Goals as goal

pub returns-in-Some-clause-stays : goal.returns-in-Some-clause-stays
returns-in-Some-clause-stays c = λ P. put-stays P c.args.self.now c.has_head.new.self c.has_head.ensures.stays c.has_head.ensures.count

pub returns-in-Some-clause-head : goal.returns-in-Some-clause-head
returns-in-Some-clause-head c = (c.has_head.ensures.stays.values c.args.head c.requires).1
