use Rattle.std.proofs.Common.{take, reverse}
use Rattle.plterm.specs.Reading.{reading}
use Rattle.plcells.proofs.Putting.{IsPut}
use Rattle.plcells.proofs.heap.Heap.put_all.Given as goal

abbrev pub invariant-loop-node : goal.invariant-loop-node
invariant-loop-node l = IsPut l.initial.self l.self l.values l.stack.items (reading (reverse (take l.node-index l.nodes)))
