use Rattle.std.proofs.Common.{take}
use Rattle.plcells.specs.Blocks.{AreSolid}
use Rattle.plcells.proofs.heap.Heap.are_solid.Given as goal

abbrev pub invariant-loop-a : goal.invariant-loop-a
invariant-loop-a l = AreSolid l.self (take l.a-index l.arguments)
