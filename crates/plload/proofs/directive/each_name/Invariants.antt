use Rattle.std.proofs.Common.{◌≡◌, drop}
use Rattle.plclause.specs.Lists.{each}
use Rattle.plclause.specs.Named.{name_of}
use Rattle.plclause.proofs.Each.{behind}
use Rattle.plload.proofs.directive.each_name.Given as goal

abbrev pub invariant-loop-term : goal.invariant-loop-term
invariant-loop-term l = each name_of l.terms ≡ behind name_of l.found.items (each name_of (drop l.term-index l.terms))
