use Rattle.std.proofs.Common.{sym}
use Rattle.plrecords.proofs.runs.lengthen.Goals as goal

pub returns-in-Some-clause-runs : goal.returns-in-Some-clause-runs
returns-in-Some-clause-runs c = λ p rs links runs.
    c.begin.ensures.runs p rs runs (c.joined-run.ensures p rs c.args.start links runs (runs.each c.args.start c.in-Some.own (sym c.in-Some.ensures)))
