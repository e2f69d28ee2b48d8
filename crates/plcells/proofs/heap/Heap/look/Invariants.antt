use Rattle.std.proofs.Common.{◌≡◌, ℕ, suc, ◌+◌, ◌≤◌, ◌||◌}
use Rattle.plterm.specs.Tree.{var, trees}
use Rattle.plsubst.specs.Subst.{occurs_in}
use Rattle.plcells.specs.Store.{term, terms}
use Rattle.plcells.specs.Walking.{weights, weigh, occurs_any, AreBlocks}
use Rattle.plcells.proofs.heap.Heap.look.Given as goal

abbrev pub invariant-loop-j : goal.invariant-loop-j
invariant-loop-j l = record {
  blocks : AreBlocks l.self l.stack.items;
  left : (n : ℕ) → term l.self l.x ≡ var n → occurs_any n l.self l.stack.items ≡ (occurs_any n l.self l.initial.stack.items || occurs_in n (trees (terms l.self (suc l.p) l.j)));
  lighter : weigh l.self l.stack.items ≤ weigh l.self l.initial.stack.items + weights (trees (terms l.self (suc l.p) l.j));
}
