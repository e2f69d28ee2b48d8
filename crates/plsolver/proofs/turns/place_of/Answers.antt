use Rattle.std.proofs.Common.{rules}
use Rattle.std.specs.Prelude.{nat_lt}
use Rattle.std.proofs.lemmas.List.Sorted.{IsPartitionPoint-from_clause}
use Rattle.plsolver.proofs.Falling.{parts}
use Rattle.plsolver.proofs.turns.place_of.Goals as goal

pub returns-clause-point : goal.returns-clause-point
returns-clause-point c = IsPartitionPoint-from_clause (λ k. nat_lt c.args.level k) _ _ c.partition_point.ensures.partitioned (parts c.args.levels.now c.requires.falls c.args.level) (λ a r q k. search rules)
