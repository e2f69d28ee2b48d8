use Rattle.std.proofs.Common.{◌≡◌, ◌-◌, ◌≤◌, length, refl, sym, ap, ◌∙◌, nat_cmp, is_le, arith, rules}
use Rattle.std.specs.Prelude.{nat_le, slice_index_or}
use Rattle.std.proofs.lemmas.List.{get_or_read_under}
use Rattle.std.proofs.lemmas.Map.Keys.{le_from_is_le}
use Rattle.std.proofs.lemmas.List.Sorted.{IsPartitionPoint-from_clause, IsPartitionedBy-leb}
use Rattle.plcollect.specs.declared.collection.Held.{Held}
use Rattle.plsearch.proofs.Cuts.{at-most}
use Rattle.plcollect.proofs.collection.place_behind.Goals as goal

pub returns-clause-point : goal.returns-clause-point
returns-clause-point c =
    IsPartitionPoint-from_clause (λ k. nat_le k.level c.args.level) _ _ c.partition_point.ensures.partitioned (IsPartitionedBy-leb (λ k. k.level) _ c.args.level c.requires) (λ a r q k. search rules)

pub returns-then-le-clause-point : goal.returns-then-le-clause-point
returns-then-le-clause-point c =
    let hs = c.args.held.now in
    let last = length hs - 1 in
    let one = c.index-held-count.result in (
      (λ k d low high.
          let same : one ≡ slice_index_or hs last d = get_or_read_under hs last (length hs) one d c.index-held-count.is (omega arith) refl in
          let top : one.level ≤ c.args.level = le_from_is_le one.level c.args.level (ap (λ (h : Held). is_le (nat_cmp h.level c.args.level)) c.index-held-count.is ∙ sym c.if-le.ensures) in
          at-most _ _ (omega (arith, c.requires k last d (omega arith) (omega arith), ap (λ (h : Held). h.level) same, top))),
      λ k d low high. absurd (omega arith),
    )
