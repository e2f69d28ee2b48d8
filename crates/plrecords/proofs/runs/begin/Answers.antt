use Rattle.plrecords.proofs.Passing.{runs-one, runs-same}
use Rattle.plrecords.proofs.runs.begin.Goals as goal

pub returns-clause-runs : goal.returns-clause-runs
returns-clause-runs c = λ p rs runs own.
    runs-same p rs _ _ c.unite-united.ensures.same (runs-one p rs c.args.places.now c.set_run.new.places c.args.first c.args.run runs own c.set_run.ensures.set)
