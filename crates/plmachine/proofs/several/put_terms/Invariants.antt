use Rattle.std.proofs.Common.{take}
use Rattle.plmachine.proofs.Joining.{Joins}
use Rattle.plmachine.proofs.several.put_terms.Given as goal

abbrev pub invariant-loop-term : goal.invariant-loop-term
invariant-loop-term l = Joins l.fn.stack l.stack l.fn.values.items l.all.items (take l.term-index l.terms)
