use Rattle.std.proofs.Common.{◌∙◌, sym, ap, subst}
use Rattle.std.specs.Option.{option_map}
use Rattle.plevent.specs.Alive.{named}
use Rattle.plevent.specs.declared.update.ClauseName.{ClauseName}
use Rattle.pltx.specs.declared.own.OwnCursor.{OwnCursor}
use Rattle.plviews.specs.declared.lookup.Reach.TheVariants.{Back}
use Rattle.plviews.specs.Views.{whole}
use Rattle.plviews.specs.Lookups.{left, sight_of, Begins}
use Rattle.plviews.proofs.Heads.{none-head}
use Rattle.plviews.proofs.Telling.{back-next}
use Rattle.plviews.proofs.lookup.Lookup.back.Goals as goal

pub returns-in-Some-clause-tells : goal.returns-in-Some-clause-tells
returns-in-Some-clause-tells c = λ us h.
    let l = c.args.self.now in
    let b = l.view.place in
    let n = c.in-Some.number in
    subst (λ (x : ClauseName). Begins (whole (sight_of us l)) x (left us l (Back c.args.cursor)) (left us l (Back (OwnCursor.After n)))) (sym c.own_name.ensures)
    (back-next (sight_of us l) l.pred.now l.key.now h.ordered h.under c.args.cursor n (ap (option_map (named b)) (sym c.in-Some.is) ∙ c.next_back.ensures.like b h.erased))

pub returns-in-None-clause-tells : goal.returns-in-None-clause-tells
returns-in-None-clause-tells c = λ us h.
    let l = c.args.self.now in
    let b = l.view.place in
    none-head (left us l (Back c.args.cursor)) (ap (option_map (named b)) (sym c.in-None.is) ∙ c.next_back.ensures.like b h.erased)
