use Rattle.std.proofs.Common.{◌≡◌, ℕ, map, take}
use Rattle.plcells.specs.declared.cell.Cell.TheVariants.{Lone, Ref}
use Rattle.plcells.specs.Store.{at}
use Rattle.plcells.specs.Blocks.{cells_of}
use Rattle.plcells.specs.Skipping.{plain}
use Rattle.plcells.proofs.heap.embed_arguments.Given as goal

abbrev pub invariant-loop-a : goal.invariant-loop-a
invariant-loop-a l = record {
  same : map plain l.cells.items ≡ map plain l.initial.cells.items;
  was : (d p : ℕ) → at l.cells.items d ≡ Lone p → at l.initial.cells.items d ≡ Lone p;
  lone : (d p : ℕ) → at l.cells.items d ≡ Lone p → (n k : ℕ) → at (cells_of n (take l.a-index l.arguments)) k ≡ Ref d → ⊥;
}
