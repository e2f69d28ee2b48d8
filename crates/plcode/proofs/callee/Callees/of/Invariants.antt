use Rattle.std.proofs.Common.{◌≡◌, length}
use Rattle.plcode.specs.declared.callee.Callee.TheVariants.{Unknown}
use Rattle.plcode.specs.declared.callee.Number.{Number}
use Rattle.plcode.specs.Callees.{callee_at, found}
use Rattle.plcode.proofs.callee.Callees.of.Given as goal

abbrev pub invariant-entries : goal.invariant-entries
invariant-entries l = (n : Number) → found (callee_at l.callees n) l.entries.items n ≡ found Unknown l.fn.entries.items n

abbrev pub decreases-entries : goal.decreases-entries
decreases-entries l = length l.entries.items
