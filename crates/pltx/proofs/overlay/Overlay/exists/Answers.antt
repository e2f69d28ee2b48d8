use Rattle.std.proofs.Common.{◌∙◌, ap, take}
use Rattle.plevent.specs.Alive.{exists}
use Rattle.plrecords.specs.Kept.{is_there}
use Rattle.plstore.proofs.Whole.{there-is}
use Rattle.pltx.specs.Overlays.{drafted}
use Rattle.pltx.proofs.Drafting.{drafted-exists, first-drafted}
use Rattle.pltx.proofs.overlay.Overlay.exists.Goals as goal

pub returns : goal.returns
returns c = λ b.
    let us = c.args.self.now.updates.items in
    let m = c.args.m in
    let p = c.args.pred.now in
    c.exists.ensures ∙ ap (is_there m p) c.requires.draft ∙ there-is m p (drafted 0 us) ∙ ap (λ ss. exists ss p) (first-drafted m us) ∙ drafted-exists b p (take m us)
