use Rattle.std.proofs.Common.{◌∙◌, sym, ap}
use Rattle.std.specs.Option.{option_map}
use Rattle.plevent.specs.Alive.{named}
use Rattle.plevent.specs.declared.update.ClauseName.{ClauseName}
use Rattle.pltx.proofs.Putting.{first-of-backs}
use Rattle.pltx.proofs.overlay.Overlay.first_back.Goals as goal

pub returns-in-Some : goal.returns-in-Some
returns-in-Some c = λ b h.
    sym (ap (option_map (λ (x : ClauseName). named b x.place)) c.in-Some.is)
    ∙ first-of-backs c.args.self.now.updates.items b c.args.m c.args.pred.now c.args.key.now c.args.self.now.draft c.first_back.result c.requires.draft h c.first_back.ensures

pub returns-in-None : goal.returns-in-None
returns-in-None c = λ b h.
    sym (ap (option_map (λ (x : ClauseName). named b x.place)) c.in-None.is)
    ∙ first-of-backs c.args.self.now.updates.items b c.args.m c.args.pred.now c.args.key.now c.args.self.now.draft c.first_back.result c.requires.draft h c.first_back.ensures
