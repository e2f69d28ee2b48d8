use Rattle.std.proofs.Common.{◌∙◌, sym}
use Rattle.plviews.specs.declared.lookup.Reach.TheVariants.{Base, Back}
use Rattle.pltx.specs.declared.own.OwnCursor.{OwnCursor}
use Rattle.plviews.specs.Lookups.{left, sight_of}
use Rattle.plviews.proofs.Telling.{base-over, says-same}
use Rattle.plviews.proofs.lookup.Lookup.found.Goals as goal

pub returns-in-None-clause-tells : goal.returns-in-None-clause-tells
returns-in-None-clause-tells c = λ us d h e.
    let l = c.args.self.now in
    let s = sight_of us l in
    says-same s l.pred.now l.key.now (left us l (Back OwnCursor.Start)) (left us l (Base d)) c.back.result
    (base-over s l.pred.now l.key.now h.ordered h.under d (sym c.in-None.is ∙ e)) (c.back.ensures.tells us h)

pub returns-in-None-clause-further : goal.returns-in-None-clause-further
returns-in-None-clause-further c = λ us d h e. c.back.ensures.further us d
