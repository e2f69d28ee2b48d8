use Rattle.plcode.specs.Index.{NoneAdmitted}
use Rattle.plcode.proofs.index.next_candidate.Given as goal

abbrev pub invariant-loop-place : goal.invariant-loop-place
invariant-loop-place l = NoneAdmitted l.key l.clauses l.from l.place
