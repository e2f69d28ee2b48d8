use Rattle.std.proofs.Common.{◌≡◌}
use Rattle.plread.proofs.Joined.{onto}
use Rattle.plbuiltin.specs.Parts.{variables_from}
use Rattle.planswers.proofs.build.list_of_variables.Given as goal

abbrev pub invariant-loop-i : goal.invariant-loop-i
invariant-loop-i l = l.terms ≡ onto (variables_from l.from l.i) l.initial.terms
