use Rattle.std.proofs.Common.{◌≡◌, ◌++◌, drop, filter_map, find, not}
use Rattle.std.specs.Option.{is_some}
use Rattle.plclause.specs.Named.{indicator_of}
use Rattle.plrefusals.proofs.naming.naming.Given as goal

abbrev pub invariant-loop-term : goal.invariant-loop-term
invariant-loop-term l = record {
  found : l.found.items ++ filter_map indicator_of (drop l.term-index l.terms) ≡ filter_map indicator_of l.terms;
  none : find (λ t. not (is_some (indicator_of t))) (drop l.term-index l.terms) ≡ find (λ t. not (is_some (indicator_of t))) l.terms;
}
