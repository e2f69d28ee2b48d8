use Rattle.std.proofs.Common.{◌≡◌}
use Rattle.plenv.specs.Changes.{Stays, NoneFreed}
use Rattle.plenv.specs.Blocks.{HasFree}
use Rattle.plenv.proofs.env.Environment.put_variables.Given as goal

abbrev pub invariant-loop-node : goal.invariant-loop-node
invariant-loop-node l = record {
  set : HasFree l.self.slots l.base l.row 0 l.node-index → ⊥;
  stays : Stays l.initial.self l.self;
  names : l.self.heap.names ≡ l.initial.self.heap.names;
  freed : NoneFreed l.initial.self l.self;
}
