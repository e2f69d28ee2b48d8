use Rattle.std.proofs.Common.{rules}
use Rattle.std.specs.Prelude.{nat_lt}
use Rattle.std.proofs.lemmas.List.Sorted.{IsPartitionPoint-from_clause, IsPartitionedBy-ltb}
use Rattle.plcollect.proofs.collection.place_of.Goals as goal

pub returns-clause-point : goal.returns-clause-point
returns-clause-point c =
    IsPartitionPoint-from_clause (λ k. nat_lt k.level c.args.level) _ _ c.partition_point.ensures.partitioned (IsPartitionedBy-ltb (λ k. k.level) _ c.args.level c.requires) (λ a r q k. search rules)
