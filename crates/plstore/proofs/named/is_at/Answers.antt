use Rattle.std.proofs.Common.{arith}
use Rattle.plstore.proofs.Same.{nat-same}
use Rattle.plstore.proofs.Search.{one-equal}
use Rattle.plstore.proofs.named.is_at.Goals as goal

pub returns-then-record-name : goal.returns-then-record-name
returns-then-record-name c = λ same.
    let r = c.in-Some.record.now in
    one-equal _ c.args.name c.args.number r c.requires (omega (arith, c.in-Some.ensures.lookup)) c.in-Some.ensures.lookup.1 c.if-record-name.true (nat-same r.name.place c.args.name.place same)
