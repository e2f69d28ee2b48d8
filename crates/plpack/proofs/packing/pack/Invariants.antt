use Rattle.std.proofs.Common.{length}
use Rattle.std.specs.List.{flat_map}
use Rattle.plterm.specs.Reading.{spelling}
use Rattle.plpack.proofs.Numberings.{Packs}
use Rattle.plpack.proofs.packing.pack.Given as goal

abbrev pub invariant-nodes : goal.invariant-nodes
invariant-nodes l = Packs l.term l.out.items l.seen l.terms

abbrev pub decreases-nodes : goal.decreases-nodes
decreases-nodes l = length (flat_map spelling l.terms)
