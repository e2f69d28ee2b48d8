use Rattle.std.proofs.Common.{◌≡◌, ℕ, ◌+◌}
use Rattle.plcells.specs.Store.{terms}
use Rattle.plbind.specs.Apart.{ListsApart}
use Rattle.plbind.proofs.apart.are_arguments_apart.Given as goal

abbrev pub invariant-loop-i : goal.invariant-loop-i
invariant-loop-i l = (k : ℕ) → k + l.i ≡ l.count → ListsApart (terms l.heap (l.p + 1 + l.i) k) l.args → ListsApart (terms l.heap (l.p + 1) l.count) l.fn.args
