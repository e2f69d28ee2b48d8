use Rattle.std.proofs.Common.{rules}
use Rattle.plsolver.proofs.progress.Progress.walk_from.Goals as goal

pub returns-clause-ok : goal.returns-clause-ok
returns-clause-ok c P = let ok = c.walk.ensures.ok P in search rules

pub returns-clause-err : goal.returns-clause-err
returns-clause-err c P = let err = c.walk.ensures.err P in search rules
