use Rattle.std.proofs.Common.{◌≡◌, suc, ◌∷◌, map}
use Rattle.platoms.specs.Names.{functor_name}
use Rattle.plterm.specs.Tree.{atom}
use Rattle.plcells.specs.Store.{AreValues, value, terms}
use Rattle.plpredicates.proofs.parts.elements.Given as goal

abbrev pub invariant-loop-k : goal.invariant-loop-k
invariant-loop-k l = record {
  items : AreValues l.heap l.items.items;
  same : map (value l.heap) l.items.items ≡ atom (functor_name l.heap.names l.block.functor) ∷ terms l.heap (suc l.block.place) l.k;
}
