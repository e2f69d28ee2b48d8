use Rattle.std.proofs.Common.{sym, ◌∙◌}
use Rattle.std.specs.Prelude.{nat_lt}
use Rattle.plcollect.proofs.Parting.{before}
use Rattle.plcollect.proofs.collection.leave_below.Goals as goal

pub returns : goal.returns
returns c =
    let hs = c.args.held.now.items in
    let within = rw c.deref.ensures.value at c.place_of-place.ensures.within in
    let point = rw c.deref.ensures.value at c.place_of-place.ensures.point in
    c.truncate.ensures.items ∙ sym (before (λ h. nat_lt h.level c.args.level) hs c.place_of-place.result within point)
