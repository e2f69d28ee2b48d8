-- The predicates whose errors the machine raises.
use Rattle.std.specs.Prelude.{◌≤◌}
use Rattle.plterm.specs.declared.indicator.Indicator.{Indicator}
use Rattle.plsearch.specs.Moves.{transaction_1, snapshot_1}
use Rattle.plsearch.specs.Rows.{once_1, not_1, catch_3, findall_3, throw_1, call_with, halt_1}
use Rattle.plrefusals.specs.declared.predicate.Predicate.{Predicate}
use Rattle.plrefusals.specs.declared.predicate.Predicate.TheVariants.{Once, Not, Catch, FindAll, Throw, CallWith, Halt, Transaction, Snapshot}

abbrev pub predicate_of : Predicate → Indicator
predicate_of Once = once_1
predicate_of Not = not_1
predicate_of Catch = catch_3
predicate_of FindAll = findall_3
predicate_of Throw = throw_1
predicate_of (CallWith n) = call_with n
predicate_of Halt = halt_1
predicate_of Transaction = transaction_1
predicate_of Snapshot = snapshot_1

-- it has no more arguments than there may be
abbrev pub IsFew : Predicate → Type 0
IsFew Once = Unit {0}
IsFew Not = Unit {0}
IsFew Catch = Unit {0}
IsFew FindAll = Unit {0}
IsFew Throw = Unit {0}
IsFew (CallWith n) = n ≤ 1024
IsFew Halt = Unit {0}
IsFew Transaction = Unit {0}
IsFew Snapshot = Unit {0}
