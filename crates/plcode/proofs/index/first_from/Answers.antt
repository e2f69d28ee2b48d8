use Rattle.std.proofs.Common.{Err, arith}
use Rattle.std.proofs.lemmas.List.Sorted.{searched}
use Rattle.plcode.proofs.Indexing.{first_behind, first_none}
use Rattle.plcode.proofs.index.first_from.Goals as goal

pub returns-then-next-places : goal.returns-then-next-places
returns-then-next-places c =
    let s = searched c.args.places.now c.args.from (Err c.in-Err.next) c.in-Err.ensures.position c.requires in
    first_behind c.args.places.now c.args.from c.in-Err.next (omega arith) c.requires s

pub returns-else-next-places : goal.returns-else-next-places
returns-else-next-places c =
    let s = searched c.args.places.now c.args.from (Err c.in-Err.next) c.in-Err.ensures.position c.requires in
    first_none c.args.places.now c.args.from c.in-Err.next (omega arith) s
