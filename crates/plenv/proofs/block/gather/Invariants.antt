use Rattle.std.proofs.Common.{◌≡◌, length, take}
use Rattle.plenv.specs.Blocks.{AddsNoCell, AreParts, HasOne}
use Rattle.plenv.proofs.block.gather.Given as goal

abbrev pub invariant-loop-i : goal.invariant-loop-i
invariant-loop-i l = record {
  grows : AddsNoCell l.initial.heap l.heap;
  parts : AreParts l.heap l.slots l.run (take l.i l.row) l.block.items;
  length : length l.block.items ≡ l.i;
  one : HasOne l.block.items l.one;
}
