use Rattle.std.proofs.Common.{◌∙◌, sym, ap}
use Rattle.std.specs.Prelude.{◌||◌}
use Rattle.plevent.specs.Alive.{exists}
use Rattle.plviews.specs.Views.{sight}
use Rattle.plviews.proofs.Naming.{exists-whole}
use Rattle.plviews.proofs.view.View.names.Goals as goal

pub returns-then-self-gt0 : goal.returns-then-self-gt0
returns-then-self-gt0 c = λ us.
    let v = c.args.self in
    let p = c.args.pred.now in
    exists-whole (sight us v c.args.own.now.updates) p ∙ ap (λ e. e || exists us p) (sym (c.exists_own.ensures v.place))
