use Rattle.std.proofs.Common.{arith}
use Rattle.plcode.proofs.Indexing.{places_next}
use Rattle.plcode.proofs.index.places_of.Goals as goal

pub loop-place-preserved : goal.loop-place-preserved
loop-place-preserved c = places_next c.loop-place.places c.add_place.new.places c.args.clauses.now c.loop-place.place _ (omega arith) c.in_ok-add_place.ensures c.loop-place.invariant
