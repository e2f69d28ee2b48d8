use Rattle.plcells.specs.Store.{value}
use Rattle.plorder.specs.Spans.{weigh_spans}
use Rattle.plorder.proofs.Occurring.{Occurs}
use Rattle.plorder.proofs.occurrences.variables_of.Given as goal

abbrev pub invariant-spans : goal.invariant-spans
invariant-spans l = Occurs l.heap l.work.items l.found (value l.heap l.fn.v)

abbrev pub decreases-spans : goal.decreases-spans
decreases-spans l = weigh_spans l.heap l.work.items
