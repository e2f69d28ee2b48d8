use Rattle.std.proofs.Common.{◌∙◌, sym, ap}
use Rattle.std.specs.Option.{option_copied}
use Rattle.plviews.specs.Views.{sight}
use Rattle.plviews.proofs.Naming.{own-alive}
use Rattle.plviews.proofs.view.View.own_clause.Goals as goal

pub returns-in-Some-clause-told : goal.returns-in-Some-clause-told
returns-in-Some-clause-told c = λ us h.
    let v = c.args.self in
    own-alive (sight us v c.args.own.now.updates) c.args.number h.under ∙ sym (ap option_copied (sym c.in-Some.is) ∙ c.clause.ensures v.place h.erased)

pub returns-in-None-clause-told : goal.returns-in-None-clause-told
returns-in-None-clause-told c = λ us h.
    let v = c.args.self in
    own-alive (sight us v c.args.own.now.updates) c.args.number h.under ∙ sym (ap option_copied (sym c.in-None.is) ∙ c.clause.ensures v.place h.erased)
