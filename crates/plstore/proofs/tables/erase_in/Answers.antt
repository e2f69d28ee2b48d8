use Rattle.std.proofs.Common.{sym}
use Rattle.plrecords.specs.Kept.{is_named, erase_at}
use Rattle.plrecords.proofs.Backward.{record-was}
use Rattle.plstore.proofs.Search.{changed-none, erased-one}
use Rattle.plstore.proofs.tables.erase_in.Goals as goal

pub returns-in-Some-clause-erased : goal.returns-in-Some-clause-erased
returns-in-Some-clause-erased c = rw c.first-record.ensures (erased-one c.args.records.now c.args.of c.args.place c.in-Some.number c.index-records-number.result c.in-Some.ensures)

pub returns-clause-erased : goal.returns-clause-erased
returns-clause-erased c = sym (changed-none (is_named c.args.of) (erase_at c.args.place) c.args.records.now (λ k d l. c.in_default.ensures k d l))

pub returns-in-Some-clause-was : goal.returns-in-Some-clause-was
returns-in-Some-clause-was c =
    record-was c.args.records.now c.in-Some.number c.index-records-number.result c.args.place c.first-record.result c.fresh.result c.in-Some.ensures.within c.first-record.ensures c.fresh.ensures.some c.fresh.ensures.none
