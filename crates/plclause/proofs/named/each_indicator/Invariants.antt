use Rattle.std.proofs.Common.{◌≡◌, drop}
use Rattle.plclause.specs.Lists.{each}
use Rattle.plclause.specs.Named.{indicator_of}
use Rattle.plclause.proofs.Each.{behind}
use Rattle.plclause.proofs.named.each_indicator.Given as goal

abbrev pub invariant-loop-term : goal.invariant-loop-term
invariant-loop-term l = each indicator_of l.terms ≡ behind indicator_of l.found.items (each indicator_of (drop l.term-index l.terms))
