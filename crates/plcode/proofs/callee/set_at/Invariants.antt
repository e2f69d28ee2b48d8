use Rattle.std.proofs.Common.{◌≡◌, ℕ, length, get_or}
use Rattle.plcode.specs.declared.callee.Callee.TheVariants.{Unknown}
use Rattle.plcode.proofs.callee.set_at.Given as goal

abbrev pub invariant-loop : goal.invariant-loop
invariant-loop l = record {
  len : length l.callees.items ≡ l.counter;
  same : (i : ℕ) → get_or l.callees.items i Unknown ≡ get_or l.fn.callees.items i Unknown;
}
