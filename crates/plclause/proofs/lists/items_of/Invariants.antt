use Rattle.std.proofs.Common.{◌≡◌, ◌++◌, length}
use Rattle.plterm.specs.Reading.{spelling}
use Rattle.plclause.specs.Lists.{items, behind}
use Rattle.plclause.proofs.lists.items_of.Given as goal

abbrev pub invariant-pairs : goal.invariant-pairs
invariant-pairs l = record {
  items : l.found.items ++ items l.name l.rest ≡ items l.name l.term;
  behind : behind l.name l.rest ≡ behind l.name l.term;
}

abbrev pub decreases-pairs : goal.decreases-pairs
decreases-pairs l = length (spelling l.rest)
