use Rattle.std.proofs.Common.{◌≡◌, map, drop}
use Rattle.plcells.specs.Store.{AreValues, value}
use Rattle.plbuiltin.specs.Flags.{names_of}
use Rattle.pltexts.proofs.Named.{all_before}
use Rattle.pltexts.proofs.flags.names_of.Given as goal

abbrev pub invariant-loop-v : goal.invariant-loop-v
invariant-loop-v l = record {
  items : AreValues l.heap (drop l.v-index l.items);
  so_far : names_of (map (value l.heap) l.items) ≡ all_before l.names.items (names_of (map (value l.heap) (drop l.v-index l.items)));
}
