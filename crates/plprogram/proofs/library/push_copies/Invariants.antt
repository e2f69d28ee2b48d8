use Rattle.std.proofs.Common.{◌≡◌, ◌++◌, take}
use Rattle.plprogram.proofs.library.push_copies.Given as goal

abbrev pub invariant-loop-clause : goal.invariant-loop-clause
invariant-loop-clause l = l.found.items ≡ l.initial.found.items ++ take l.clause-index l.clauses
