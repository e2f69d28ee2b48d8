use Rattle.std.proofs.Common.{◌≡◌}
use Rattle.plread.specs.Machine.{with_tail}
use Rattle.plread.proofs.lists.join.Given as goal

abbrev pub invariant-cells : goal.invariant-cells
invariant-cells l = l.terms ≡ with_tail l.counter l.initial.terms
