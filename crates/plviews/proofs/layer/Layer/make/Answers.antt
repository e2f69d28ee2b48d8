use Rattle.std.proofs.Common.{◌≡◌, ◌∙◌, sym, subst, ap, true}
use Rattle.pltx.specs.declared.level.Isolation.TheVariants.{Transaction}
use Rattle.pltx.specs.Own.{State, all_made, any_open, begun, ended}
use Rattle.plviews.specs.Layers.{IsLayer, Layered, Grows}
use Rattle.plviews.proofs.Layering.{all-made-layer, all-made-open, begun-open, grows-open, made-inside, none-inside}
use Rattle.plviews.proofs.layer.Layer.make.Goals as goal

pub make_each-requires : goal.make_each-requires
make_each-requires c =
    let o = c.self.inside.own in
    ap any_open (c.in_ok-begin.ensures.begun ∙ ap (λ b. begun Transaction b o) c.base-base.ensures) ∙ begun-open o (ap (λ (x : Layered). any_open x.own) c.self.view_is ∙ c.requires)

pub end_inner-requires : goal.end_inner-requires
end_inner-requires c =
    let o = c.self.inside.own in
    let begins : c.begin.new.self ≡ begun Transaction o.base o = c.in_ok-begin.ensures.begun ∙ ap (λ b. begun Transaction b o) c.base-base.ensures in
    ap any_open (c.in-Ok.ensures.made ∙ ap (all_made c.args.updates.now) begins)
    ∙ all-made-open c.args.updates.now (begun Transaction o.base o) (begun-open o (ap (λ (x : Layered). any_open x.own) c.self.view_is ∙ c.requires))

pub end_inner-requires-in-Err : goal.end_inner-requires-in-Err
end_inner-requires-in-Err c =
    let o = c.self.inside.own in
    let begins : c.begin.new.self ≡ begun Transaction o.base o = c.in_ok-begin.ensures.begun ∙ ap (λ b. begun Transaction b o) c.base-base.ensures in
    grows-open c.begin.new.self c.make_each.new.own (ap any_open begins ∙ begun-open o (ap (λ (x : Layered). any_open x.own) c.self.view_is ∙ c.requires)) c.in-Err.ensures.some

made-is : (c : goal.After-end_inner) → c.end_inner.new.own ≡ all_made c.args.updates.now c.self.inside.own
made-is c =
    let o = c.self.inside.own in
    let begins : c.begin.new.self ≡ begun Transaction o.base o = c.in_ok-begin.ensures.begun ∙ ap (λ b. begun Transaction b o) c.base-base.ensures in
    c.end_inner.ensures ∙ ap (ended true) (c.in-Ok.ensures.made ∙ ap (all_made c.args.updates.now) begins)
    ∙ made-inside c.args.updates.now o (ap (λ (x : Layered). any_open x.own) c.self.view_is ∙ c.requires)

none-is : (c : goal.After-end_inner-in-Err) → c.end_inner-in-Err.new.own ≡ c.self.inside.own
none-is c =
    let o = c.self.inside.own in
    let begins : c.begin.new.self ≡ begun Transaction o.base o = c.in_ok-begin.ensures.begun ∙ ap (λ b. begun Transaction b o) c.base-base.ensures in
    c.end_inner-in-Err.ensures
    ∙ none-inside o c.make_each.new.own (ap (λ (x : Layered). any_open x.own) c.self.view_is ∙ c.requires) (subst (λ b. Grows b c.make_each.new.own) begins c.in-Err.ensures.some)

pub invariant_of-self-in-Ok : goal.invariant_of-self-in-Ok
invariant_of-self-in-Ok c =
    subst (λ (s : State). IsLayer (record { own = s; place = c.self.inside.place })) (sym (made-is c)) (all-made-layer c.args.updates.now (record { own = c.self.inside.own; place = c.self.inside.place }) (ap (λ (x : Layered). any_open x.own) c.self.view_is ∙ c.requires) c.self.invariant)

pub invariant_of-self-in-Err : goal.invariant_of-self-in-Err
invariant_of-self-in-Err c = subst (λ (s : State). IsLayer (record { own = s; place = c.self.inside.place })) (sym (none-is c)) c.self.invariant

pub returns-in-Ok-clause-made : goal.returns-in-Ok-clause-made
returns-in-Ok-clause-made c =
    ap (λ (s : State). record { own = s; place = c.self.inside.place }) (made-is c) ∙ ap (λ (x : Layered). record x { own = all_made c.args.updates.now x.own }) c.self.view_is

pub returns-in-Err-clause-refused : goal.returns-in-Err-clause-refused
returns-in-Err-clause-refused c = ap (λ (s : State). record { own = s; place = c.self.inside.place }) (none-is c) ∙ c.self.view_is
