use Rattle.std.proofs.Common.{nat_lt}
use Rattle.std.proofs.lemmas.List.Filters.{FiltersInPlace}
use Rattle.plenv.proofs.env.move_older.Given as goal

abbrev pub invariant-loop-i : goal.invariant-loop-i
invariant-loop-i l = FiltersInPlace (λ t. nat_lt t.slot l.slots) l.initial.noted l.noted l.kept l.i
