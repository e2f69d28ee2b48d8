use Rattle.std.proofs.Common.{◌≡◌, ℕ}
use Rattle.plterm.specs.Tree.{var}
use Rattle.plsubst.specs.Subst.{occurs}
use Rattle.plcells.specs.Store.{term}
use Rattle.plcells.specs.Walking.{weigh, occurs_any, AreBlocks}
use Rattle.plcells.proofs.heap.Heap.occurs_below.Given as goal

abbrev pub invariant-loop-q : goal.invariant-loop-q
invariant-loop-q l = record {
  blocks : AreBlocks l.self l.stack.items;
  left : (n : ℕ) → term l.self l.x ≡ var n → occurs n (term l.self l.fn.p) ≡ occurs_any n l.self l.stack.items;
}

abbrev pub decreases-loop-q : goal.decreases-loop-q
decreases-loop-q l = weigh l.self l.stack.items
