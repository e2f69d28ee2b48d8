use Rattle.std.proofs.Common.{nat_lt}
use Rattle.std.proofs.lemmas.List.Filters.{FiltersInPlace}
use Rattle.plcells.proofs.heap.move_older.Given as goal

abbrev pub invariant-loop-i : goal.invariant-loop-i
invariant-loop-i l = FiltersInPlace (λ t. nat_lt t.cell l.cells) l.initial.trail l.trail l.kept l.i
