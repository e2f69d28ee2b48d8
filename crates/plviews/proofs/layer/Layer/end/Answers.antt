use Rattle.std.proofs.Common.{sym, subst}
use Rattle.pltx.specs.Own.{State}
use Rattle.plviews.specs.Layers.{IsLayer}
use Rattle.plviews.proofs.Layering.{ended-layer}
use Rattle.plviews.proofs.layer.Layer.end.Goals as goal

pub invariant_of-self : goal.invariant_of-self
invariant_of-self c =
    subst (λ (s : State). IsLayer (record { own = s; place = c.self.inside.place })) (sym c.end.ensures.ended) (ended-layer c.args.success (record { own = c.self.inside.own; place = c.self.inside.place }) c.self.invariant)
