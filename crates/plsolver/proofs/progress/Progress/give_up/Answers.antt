use Rattle.plsolver.proofs.Leaving.{quiet-never}
use Rattle.plsolver.proofs.progress.Progress.give_up.Goals as goal

pub give_up_to-requires : goal.give_up_to-requires
give_up_to-requires c = c.requires.marker

pub returns-clause-quiet : goal.returns-clause-quiet
returns-clause-quiet c = λ P v ordered. quiet-never P v c.args.self.now c.give_up_to.new.self c.args.level c.requires.marker.0 c.requires.visits c.requires.marker.1 c.give_up_to.ensures

pub returns-clause-walks : goal.returns-clause-walks
returns-clause-walks c = c.give_up_to.ensures.walks
