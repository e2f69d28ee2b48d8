use Rattle.std.proofs.Common.{◌≡◌, ◌++◌, length, take}
use Rattle.plcells.specs.Blocks.{cells_of, numbers_of}
use Rattle.plcells.proofs.heap.push_arguments.Given as goal

abbrev pub invariant-loop-a : goal.invariant-loop-a
invariant-loop-a l = record {
  cells : l.cells.items ≡ l.initial.cells.items ++ cells_of (length l.initial.numbers.items) (take l.a-index l.arguments);
  numbers : l.numbers.items ≡ l.initial.numbers.items ++ numbers_of (take l.a-index l.arguments);
}
