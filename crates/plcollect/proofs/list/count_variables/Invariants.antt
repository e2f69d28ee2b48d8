use Rattle.std.proofs.Common.{◌≡◌, ◌+◌, drop}
use Rattle.std.specs.List.{sum_by}
use Rattle.plcollect.specs.declared.collection.Held.{Held}
use Rattle.plcollect.proofs.list.count_variables.Given as goal

abbrev pub invariant-loop-one : goal.invariant-loop-one
invariant-loop-one l = l.count + sum_by (λ (h : Held). h.variables) (drop l.one-index l.held) ≡ sum_by (λ (h : Held). h.variables) l.held
