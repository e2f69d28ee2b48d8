use Rattle.std.proofs.Common.{◌≤◌, ◌-◌, length}
use Rattle.pllex.specs.Tokens.{TokensBetween}
use Rattle.pllex.proofs.clause.clause_tokens.Given as goal

abbrev pub invariant-tokens : goal.invariant-tokens
invariant-tokens l = record { run : TokensBetween l.text l.from l.tokens.items l.place; behind : l.from ≤ l.place; within : l.place ≤ length l.text }

abbrev pub decreases-tokens : goal.decreases-tokens
decreases-tokens l = length l.text - l.place
