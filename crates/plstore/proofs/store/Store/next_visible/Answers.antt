use Rattle.std.proofs.Common.{◌∙◌}
use Rattle.plrecords.specs.Kept.{walk}
use Rattle.plstore.proofs.Visible.{next-any}
use Rattle.plstore.proofs.store.Store.next_visible.Goals as goal

pub returns : goal.returns
returns c = c.next_like.ensures ∙ next-any c.args.cursor (walk c.args.g c.args.pred.now c.args.self.now.records)
