use Rattle.plread.specs.Looks.{view}
use Rattle.plread.specs.Views.{state_view}
use Rattle.plread.proofs.Runs.{Reading, size}
use Rattle.plread.proofs.clause.term_of.Given as goal

abbrev pub invariant-steps : goal.invariant-steps
invariant-steps l = Reading l.ops l.levels (view l.words l.tokens) (state_view l.words l.reader)

abbrev pub decreases-steps : goal.decreases-steps
decreases-steps l = size (state_view l.words l.reader)
