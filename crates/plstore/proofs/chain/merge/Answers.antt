use Rattle.std.proofs.Common.{refl}
use Rattle.plstore.proofs.Slotted.{procedure-covers}
use Rattle.plstore.proofs.chain.merge.Goals as goal

pub returns-in-Any : goal.returns-in-Any
returns-in-Any c =
    let q = c.args.sought.now in
    record { links = λ t. refl; covers = procedure-covers q.pred.now q.key.now c.args.tables.now.records.items }

pub merge_keyed-requires : goal.merge_keyed-requires
merge_keyed-requires c = record { chained = c.requires; key = λ e. c.in_default.not-Any e }
