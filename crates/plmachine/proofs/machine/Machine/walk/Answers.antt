use Rattle.plmachine.proofs.Clausal.{walks}
use Rattle.plmachine.proofs.machine.Machine.walk.Goals as goal

pub returns-clause-ok : goal.returns-clause-ok
returns-clause-ok c P = walks P c.args.self.now c.open_walk.new.self c.args.walk c.args.rest c.in_ok-open_walk.ensures.ok

pub returns-clause-walks : goal.returns-clause-walks
returns-clause-walks c = c.in_ok-open_walk.ensures.ok.walks
