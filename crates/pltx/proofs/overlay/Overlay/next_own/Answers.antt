use Rattle.std.proofs.Common.{◌∙◌, sym, ap, ap₂, take}
use Rattle.std.specs.Option.{option_map}
use Rattle.plevent.specs.Alive.{living, named}
use Rattle.plevent.specs.declared.update.ClauseName.{ClauseName}
use Rattle.plrecords.specs.Kept.{Kept, walk}
use Rattle.plstore.specs.Like.{next_like_of}
use Rattle.plstore.proofs.Whole.{walk-is}
use Rattle.pltx.specs.Overlays.{drafted}
use Rattle.pltx.proofs.Drafting.{first-drafted, rises}
use Rattle.pltx.proofs.Renaming.{next-renamed}
use Rattle.pltx.proofs.overlay.Overlay.next_own.Goals as goal

pub returns-in-Some : goal.returns-in-Some
returns-in-Some c = λ b h.
    let us = c.args.self.now.updates.items in
    let m = c.args.m in
    let p = c.args.pred.now in
    let k = c.args.key.now in
    let walked = ap (λ (k : Kept). walk m p k.records) c.requires.draft ∙ walk-is m p (drafted 0 us) (rises us) ∙ ap (λ ss. living ss p) (first-drafted m us) in
    let found = c.next_like.ensures ∙ ap₂ (next_like_of k) c.in_draft.ensures walked in
    sym (next-renamed b k c.args.cursor p (take m us) h ∙ ap (option_map (λ (x : ClauseName). named b x.place)) (sym found ∙ c.in-Some.is))

pub returns-in-None : goal.returns-in-None
returns-in-None c = λ b h.
    let us = c.args.self.now.updates.items in
    let m = c.args.m in
    let p = c.args.pred.now in
    let k = c.args.key.now in
    let walked = ap (λ (k : Kept). walk m p k.records) c.requires.draft ∙ walk-is m p (drafted 0 us) (rises us) ∙ ap (λ ss. living ss p) (first-drafted m us) in
    let found = c.next_like.ensures ∙ ap₂ (next_like_of k) c.in_draft.ensures walked in
    sym (next-renamed b k c.args.cursor p (take m us) h ∙ ap (option_map (λ (x : ClauseName). named b x.place)) (sym found ∙ c.in-None.is))
