use Rattle.std.proofs.Common.{◌≡◌}
use Rattle.plbuiltin.specs.Parts.{variables_from}
use Rattle.plgenerator.proofs.group.variables.Given as goal

abbrev pub invariant-loop-i : goal.invariant-loop-i
invariant-loop-i l = l.terms.items ≡ variables_from 1 l.i
