use Rattle.std.proofs.Common.{◌∙◌, sym, subst, ap}
use Rattle.pltx.specs.Own.{State, any_open}
use Rattle.plviews.specs.Layers.{IsLayer, Layered}
use Rattle.plviews.proofs.Layering.{made-layer}
use Rattle.plviews.proofs.layer.Layer.make_one.Goals as goal

pub invariant_of-self-2 : goal.invariant_of-self-2
invariant_of-self-2 c =
    subst (λ (s : State). IsLayer (record { own = s; place = c.self.inside.place })) (sym c.in_ok-make_one.ensures.made)
    (made-layer c.args.update (record { own = c.self.inside.own; place = c.self.inside.place }) (ap (λ (x : Layered). any_open x.own) c.self.view_is ∙ c.requires) c.self.invariant)
