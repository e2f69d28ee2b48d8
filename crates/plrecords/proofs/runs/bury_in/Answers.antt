use Rattle.plrecords.proofs.Passing.{run-alone}
use Rattle.plrecords.proofs.runs.bury_in.Goals as goal

pub returns-in-Some-clause-runs : goal.returns-in-Some-clause-runs
returns-in-Some-clause-runs c = λ p rs links gone runs.
    c.lengthen-before.ensures.runs p rs links (c.begin-own.ensures.runs p rs runs (c.joined-run.ensures p rs c.args.number links runs (run-alone p rs c.args.number c.args.place gone)))

pub returns-in-None-clause-runs : goal.returns-in-None-clause-runs
returns-in-None-clause-runs c = λ p rs links gone runs.
    c.begin-own.ensures.runs p rs runs (c.joined-run.ensures p rs c.args.number links runs (run-alone p rs c.args.number c.args.place gone))
