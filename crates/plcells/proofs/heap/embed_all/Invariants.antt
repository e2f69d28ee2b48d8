use Rattle.std.proofs.Common.{◌≡◌, ◌<◌, ℕ, map}
use Rattle.plcells.specs.declared.cell.Cell.TheVariants.{Lone, Ref}
use Rattle.plcells.specs.Store.{at}
use Rattle.plcells.specs.Skipping.{plain}
use Rattle.plcells.proofs.heap.embed_all.Given as goal

abbrev pub invariant-loop-v : goal.invariant-loop-v
invariant-loop-v l = record {
  same : map plain l.cells.items ≡ map plain l.initial.cells.items;
  was : (d p : ℕ) → at l.cells.items d ≡ Lone p → at l.initial.cells.items d ≡ Lone p;
  lone : (d p : ℕ) → at l.cells.items d ≡ Lone p → (k : ℕ) → k < l.v-index → at l.values k ≡ Ref d → ⊥;
}
