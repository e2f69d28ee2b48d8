use Rattle.plsolver.specs.Solver.{PausesAt}
use Rattle.plsolver.proofs.Waiting.{says-look}
use Rattle.plsolver.proofs.progress.Progress.told.Goals as goal

pub returns-in-Look-clause-says : goal.returns-in-Look-clause-says
unfolding PausesAt
returns-in-Look-clause-says c P of due = says-look P c.args.self.now c.requires.within (rw c.in-Look.is at due)

pub asked-requires-clause-waits : goal.asked-requires-clause-waits
unfolding PausesAt
asked-requires-clause-waits c = rw c.in-Await.is at c.requires.due.1

pub returns-in-Await-clause-says : goal.returns-in-Await-clause-says
returns-in-Await-clause-says c P of due = c.asked.ensures.says P

pub ended-requires-clause-over : goal.ended-requires-clause-over
unfolding PausesAt
ended-requires-clause-over c = (c.requires.due.0, rw c.in-Over.is at c.requires.due.1)

pub returns-in-Over-clause-says : goal.returns-in-Over-clause-says
unfolding PausesAt
returns-in-Over-clause-says c P of due = c.ended.ensures.says P (rw c.in-Over.is at due)

pub wanted-requires-clause-fetching : goal.wanted-requires-clause-fetching
unfolding PausesAt
wanted-requires-clause-fetching c = rw c.in-Fetch.is at c.requires.due.1

pub returns-in-Fetch-clause-says : goal.returns-in-Fetch-clause-says
returns-in-Fetch-clause-says c P of due = c.wanted.ensures.says P of
