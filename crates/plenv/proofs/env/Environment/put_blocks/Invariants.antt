use Rattle.std.proofs.Common.{◌≡◌, ◌-◌, ℕ, suc}
use Rattle.plterm.specs.Tree.{Tree}
use Rattle.plcode.specs.Packed.{Packed}
use Rattle.plenv.specs.Changes.{Stays, NoneFreed}
use Rattle.plenv.specs.Blocks.{AreBuilt, Hold, Stand}
use Rattle.plenv.proofs.env.Environment.put_blocks.Given as goal

abbrev pub invariant-loop-arity : goal.invariant-loop-arity
invariant-loop-arity l = record {
  packed : Packed l.nodes l.from l.root l.place;
  built : AreBuilt l.self.heap l.nodes l.run l.place;
  stand : (σ : ℕ → Tree) (width : ℕ) → Hold l.initial.self l.base σ width → Stand l.self.heap σ width l.nodes l.run l.place;
  stays : Stays l.initial.self l.self;
  names : l.self.heap.names ≡ l.initial.self.heap.names;
  freed : NoneFreed l.initial.self l.self;
}

abbrev pub decreases-loop-arity : goal.decreases-loop-arity
decreases-loop-arity l = suc l.root - l.place
