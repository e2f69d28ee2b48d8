use Rattle.std.proofs.Common.{◌∙◌, sym}
use Rattle.plviews.specs.Lookups.{sight_of}
use Rattle.plviews.specs.Views.{sight}
use Rattle.plviews.proofs.Telling.{base-erased, base-fewer, base-next}
use Rattle.plviews.proofs.view.View.past.Goals as goal

pub returns-then-erases-clause-says : goal.returns-then-erases-clause-says
returns-then-erases-clause-says c = λ p k us d h e.
    base-erased (sight us c.args.self c.args.own.now.updates) p k h.ordered h.under d c.args.name e (sym c.erases.ensures ∙ c.if-erases.true)

pub returns-then-erases-clause-further : goal.returns-then-erases-clause-further
returns-then-erases-clause-further c = λ us l d same h e. base-fewer (sight_of us l) l.pred.now l.key.now h.ordered h.under d c.args.name e

pub returns-clause-says : goal.returns-clause-says
returns-clause-says c = λ p k us d h e.
    base-next (sight us c.args.self c.args.own.now.updates) p k h.ordered h.under d c.args.name e (sym c.erases.ensures ∙ c.if-erases.false)
