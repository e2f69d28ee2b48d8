use Rattle.std.proofs.Common.{◌≡◌, ◌<◌, ◌+◌, ◌∙◌, [], ◌∷◌, ◌++◌, true, sym, ap, subst, take, length, OnErr, Ok, Err, arith}
use Rattle.std.proofs.lemmas.List.{take_more}
use Rattle.std.specs.declared.result.Result.{Result}
use Rattle.std.specs.declared.alloc.AllocError.{AllocError}
use Rattle.pltx.specs.Own.{State, made, all_made, any_open}
use Rattle.plviews.specs.Layers.{Grows}
use Rattle.plviews.proofs.Layering.{all-made-grows, all-made-push, all-made-open}
use Rattle.plviews.proofs.layer.make_each.Goals as goal

pub make_one-requires : goal.make_one-requires
make_one-requires c = subst (λ (s : State). any_open s ≡ true) (sym c.loop-update.invariant) (all-made-open (take c.loop-update.update-index c.args.updates.now) c.args.own.now c.requires)

pub loop-update-preserved : goal.loop-update-preserved
loop-update-preserved c =
    let us = c.args.updates.now in
    let i = c.loop-update.update-index in
    let u = c.update-item.result in
    c.in_ok-make_one.ensures.made
    ∙ ap (λ x. made x c.loop-update.own) (c.in_ok-update.ensures)
    ∙ ap (made u) c.loop-update.invariant
    ∙ sym (all-made-push (take i us) u c.args.own.now)
    ∙ ap (λ l. all_made (take i us ++ l ∷ []) c.args.own.now) c.update-item.is
    ∙ ap (λ l. all_made l c.args.own.now) (sym (take_more us i u (omega (arith, c.loop-update-test.true))))

abbrev on_err : {A : Type 0} (r : Result (Unit {0}) AllocError) → A → OnErr r A
on_err (Ok v) a = tt
on_err (Err e) a = a

pub returns-in_err-update-clause-some : goal.returns-in_err-update-clause-some
returns-in_err-update-clause-some c = on_err c.from_residual.result (subst (Grows c.args.own.now) (sym c.loop-update.invariant) (all-made-grows (take c.loop-update.update-index c.args.updates.now) c.args.own.now))

pub returns-in_err-make_one-clause-some : goal.returns-in_err-make_one-clause-some
returns-in_err-make_one-clause-some c = on_err c.from_residual-in_err-make_one.result (subst (Grows c.args.own.now) (sym (c.in_err-make_one.ensures.refused ∙ c.loop-update.invariant)) (all-made-grows (take c.loop-update.update-index c.args.updates.now) c.args.own.now))
