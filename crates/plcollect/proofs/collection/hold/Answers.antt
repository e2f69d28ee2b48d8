use Rattle.std.proofs.Common.{[], ◌∷◌, ◌++◌, sym, ap, ◌∙◌}
use Rattle.std.specs.Prelude.{nat_le}
use Rattle.plcollect.proofs.Parting.{before}
use Rattle.plcollect.proofs.collection.hold.Goals as goal

pub returns : goal.returns
returns c =
    let hs = c.args.held.now.items in
    let within = rw c.deref.ensures.value at c.place_behind-place.ensures.within in
    let point = rw c.deref.ensures.value at c.place_behind-place.ensures.point in
    c.in-Ok.ensures.items ∙ ap (λ xs. xs ++ c.args.one ∷ []) (c.truncate.ensures.items ∙ sym (before (λ h. nat_le h.level c.args.one.level) hs c.place_behind-place.result within point))
