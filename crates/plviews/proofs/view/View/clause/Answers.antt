use Rattle.std.proofs.Common.{◌∙◌, sym}
use Rattle.plviews.specs.Views.{sight}
use Rattle.plviews.proofs.Naming.{base-gone, base-stays}
use Rattle.plviews.proofs.view.View.clause.Goals as goal

pub returns-then-erases-clause-told : goal.returns-then-erases-clause-told
returns-then-erases-clause-told c = λ us h. base-gone (sight us c.args.self c.args.own.now.updates) c.args.name c.if-name-self.false (sym c.erases.ensures ∙ c.if-erases.true)

pub returns-clause-told : goal.returns-clause-told
returns-clause-told c = λ us h. base-stays (sight us c.args.self c.args.own.now.updates) c.args.name c.if-name-self.false (sym c.erases.ensures ∙ c.if-erases.false)
