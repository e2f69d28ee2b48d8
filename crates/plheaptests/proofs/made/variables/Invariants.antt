use Rattle.std.proofs.Common.{◌≡◌, ◌≤◌, ℕ, length}
use Rattle.plcells.specs.Store.{AreValues, IsFresh}
use Rattle.plheaptests.proofs.made.variables.Given as goal

abbrev pub invariant-loop-number : goal.invariant-loop-number
invariant-loop-number l = record {
  values : AreValues l.heap l.values.items;
  count : length l.values.items ≡ l.number;
  fresh : (m : ℕ) → l.number ≤ m → IsFresh l.heap m;
}
