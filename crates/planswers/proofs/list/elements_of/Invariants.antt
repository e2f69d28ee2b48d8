use Rattle.std.proofs.Common.{◌≡◌, map}
use Rattle.plcells.specs.Store.{IsValue, AreValues, value}
use Rattle.plcells.specs.Walking.{weight}
use Rattle.plbuiltin.specs.Lists.{elements_of}
use Rattle.planswers.proofs.list.elements_of.Given as goal
use Rattle.planswers.proofs.Cells.{joined}

abbrev pub invariant-loop-first : goal.invariant-loop-first
invariant-loop-first l = record {
  fits : IsValue l.heap l.rest;
  items : AreValues l.heap l.items.items;
  same : elements_of (value l.heap l.fn.v) ≡ joined (map (value l.heap) l.items.items) (elements_of (value l.heap l.rest));
}

abbrev pub decreases-loop-first : goal.decreases-loop-first
decreases-loop-first l = weight (value l.heap l.rest)
