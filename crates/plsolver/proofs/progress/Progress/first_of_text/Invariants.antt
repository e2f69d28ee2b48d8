use Rattle.std.proofs.Common.{length, ◌-◌}
use Rattle.plsolver.proofs.Texts.{AtText}
use Rattle.plsolver.proofs.progress.Progress.first_of_text.Given as goal

abbrev pub invariant-clauses : goal.invariant-clauses
invariant-clauses l = AtText l.initial.self l.self l.initial.at l.at l.number l.clauses

abbrev pub decreases-clauses : goal.decreases-clauses
decreases-clauses l = length l.clauses - l.number
