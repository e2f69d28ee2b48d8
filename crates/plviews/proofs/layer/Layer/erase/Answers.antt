use Rattle.std.proofs.Common.{◌∙◌, sym, subst, ap}
use Rattle.plevent.specs.declared.update.Update.TheVariants.{Erase}
use Rattle.pltx.specs.Own.{State, any_open, erased, target_at}
use Rattle.plviews.specs.Layers.{IsLayer, Layered}
use Rattle.plviews.proofs.Layering.{made-layer}
use Rattle.plviews.proofs.layer.Layer.erase.Goals as goal

pub invariant_of-self-2 : goal.invariant_of-self-2
invariant_of-self-2 c =
    subst (λ (s : State). IsLayer (record { own = s; place = c.self.inside.place }))
    (sym (c.in_ok-erasure.ensures.erased ∙ ap (λ t. erased t c.self.inside.own) (c.target_of-target.ensures ∙ ap (λ b. target_at b c.args.name) c.base.ensures)))
    (made-layer (Erase c.args.name) (record { own = c.self.inside.own; place = c.self.inside.place }) (ap (λ (x : Layered). any_open x.own) c.self.view_is ∙ c.requires) c.self.invariant)
