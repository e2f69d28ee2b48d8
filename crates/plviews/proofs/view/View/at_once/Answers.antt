use Rattle.std.proofs.Common.{arith, ◌∙◌, ap, take}
use Rattle.plviews.specs.declared.lookup.Reach.{Reach}
use Rattle.plviews.specs.Views.{sight}
use Rattle.plviews.specs.Lookups.{likely, rest_at}
use Rattle.pltx.proofs.Fronts.{no-own-front}
use Rattle.plviews.proofs.Telling.{back-none, front-none}
use Rattle.plviews.proofs.view.View.at_once.Goals as goal

pub returns-in-Front-clause-says : goal.returns-in-Front-clause-says
returns-in-Front-clause-says c = λ p k us h.
    let own = c.args.own.now.updates in
    let s = sight us c.args.self own in
    let none = no-own-front s.place c.args.self.count own p (omega (arith, c.if-self-before_fronts.true, c.before_fronts.ensures)) in
    ap (λ (r : Reach). likely k (rest_at s p r)) c.in-Front.is ∙ front-none s p k none h.ordered h.under c.in-Front.field-0

pub returns-in-Back-clause-says : goal.returns-in-Back-clause-says
returns-in-Back-clause-says c = λ p k us h.
    let own = c.args.own.now.updates in
    let s = sight us c.args.self own in
    ap (λ (r : Reach). likely k (rest_at s p r)) c.in-Back.is ∙ back-none s p k (ap (λ n. take n own) c.if-self-eq0.true) c.in-Back.field-0
