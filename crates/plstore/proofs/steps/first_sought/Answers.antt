use Rattle.std.proofs.Common.{◌∙◌, ap}
use Rattle.plstore.specs.Merged.{found_from}
use Rattle.plstore.proofs.Merging.{found-first}
use Rattle.plstore.proofs.steps.first_sought.Goals as goal

pub returns : goal.returns
returns c =
    let q = c.args.sought.now in
    let rs = c.args.tables.now.records.items in
    found-first q.g q.pred.now q.key.now rs c.sought_from.result (c.sought_from.ensures ∙ ap (found_from q rs) c.whole.ensures)
