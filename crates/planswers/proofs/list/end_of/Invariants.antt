use Rattle.std.proofs.Common.{◌≡◌}
use Rattle.plcells.specs.Store.{IsValue, value}
use Rattle.plcells.specs.Walking.{weight}
use Rattle.plbuiltin.specs.Lists.{elements_of}
use Rattle.planswers.proofs.list.end_of.Given as goal

abbrev pub invariant-loop-tail : goal.invariant-loop-tail
invariant-loop-tail l = record {
  fits : IsValue l.heap l.rest;
  same : (elements_of (value l.heap l.rest)).tail ≡ (elements_of (value l.heap l.fn.v)).tail;
}

abbrev pub decreases-loop-tail : goal.decreases-loop-tail
decreases-loop-tail l = weight (value l.heap l.rest)
