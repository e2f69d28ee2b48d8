use Rattle.std.proofs.Common.{refl}
use Rattle.plrecords.proofs.Passing.{run-joined}
use Rattle.plrecords.proofs.runs.joined.Goals as goal

pub returns-in-Some : goal.returns-in-Some
returns-in-Some c = λ p rs i links runs own.
    let b = c.in-Some.ensures c.in-Some.run' refl in
    run-joined p rs c.args.next.now c.args.places.now i b.0 c.later.result c.args.own c.in-Some.run' links runs b.1 b.2 c.later.ensures.left c.later.ensures.right own
