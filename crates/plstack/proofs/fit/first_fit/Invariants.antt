use Rattle.std.proofs.Common.{◌-◌, length}
use Rattle.plstack.proofs.Searching.{Sought}
use Rattle.plstack.proofs.fit.first_fit.Given as goal

abbrev pub invariant-clauses : goal.invariant-clauses
invariant-clauses l = Sought l.fn.env l.env l.call.values.now l.call.key l.call.nodes.now l.call.procedure.now l.fn.from l.from

abbrev pub decreases-clauses : goal.decreases-clauses
decreases-clauses l = length l.call.procedure.now - l.from
