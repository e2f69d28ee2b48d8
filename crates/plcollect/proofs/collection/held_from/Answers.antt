use Rattle.std.proofs.Common.{sym, ◌∙◌}
use Rattle.std.specs.Prelude.{nat_lt, nat_le}
use Rattle.plcollect.proofs.Parting.{rest, whole, no-lower, yes-higher}
use Rattle.plcollect.proofs.collection.held_from.Goals as goal

pub returns : goal.returns
returns c =
    let hs = c.args.held.now in
    let i = c.place_of.result in
    whole i hs ∙ sym (rest (λ h. nat_lt h.level c.args.level) (λ h. nat_le c.args.level h.level) (λ h. no-lower h.level c.args.level) (λ h. yes-higher h.level c.args.level) hs i c.place_of.ensures.within c.place_of.ensures.point)
