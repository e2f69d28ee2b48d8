use Rattle.std.proofs.Common.{subst}
use Rattle.plrecords.specs.Rising.{NoneIs}
use Rattle.plstore.proofs.Visible.{none-named}
use Rattle.plstore.proofs.steps.sought_after.Goals as goal

pub returns-in-None : goal.returns-in-None
returns-in-None c =
    let q = c.args.sought.now in
    none-named q.g q.pred.now q.key.now c.args.name c.args.tables.now.records.items (subst (NoneIs c.args.name) c.as_slice.ensures.value c.in-None.ensures)
