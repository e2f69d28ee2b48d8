use Rattle.std.proofs.Common.{◌∙◌, ap, sym, subst}
use Rattle.std.proofs.lemmas.Result.{err_from_is_err_and}
use Rattle.plcells.specs.Store.{value}
use Rattle.plenv.specs.Env.{slot_term, IsSlot}
use Rattle.plenv.specs.Changes.{Stays, Unifies}
use Rattle.plenv.proofs.Putting.{Stays-refl}
use Rattle.plenv.specs.declared.slot.Slot.TheVariants.{Free}
use Rattle.plexpression.proofs.Numbers.{number-unifies, stays-err, stays-no}
use Rattle.plexpression.proofs.number.meet_slot.Goals as goal

pub returns-in_err-set-in-Free-clause-err : goal.returns-in_err-set-in-Free-clause-err
returns-in_err-set-in-Free-clause-err c =
    let e = c.args.env.now in
    let p = err_from_is_err_and c.from_residual.result c.from_residual.ensures.1 in
    rw p.1 (subst (Stays e) (sym c.in_err-set-in-Free.ensures.err) (Stays-refl e))

pub returns-in_ok-set-in-Free-clause-yes : goal.returns-in_ok-set-in-Free-clause-yes
returns-in_ok-set-in-Free-clause-yes c = λ yes_is.
    let e = c.args.env.now in
    let n = c.in-Free.field-0 in
    let there = sym c.slot.ensures.is ∙ c.in-Free.is in
    let fits : IsSlot e (Free n) = subst (IsSlot e) c.in-Free.is c.slot.ensures.fits in
    let made = c.in_ok-set-in-Free.ensures.ok n there in
    subst (λ t. Unifies e c.set.new.self t (value e.heap c.args.v)) (sym (ap (slot_term e.heap) there))
    (number-unifies e c.set.new.self n c.args.v c.requires.number.0 c.slot.ensures.env.heap fits.0 c.requires.value c.requires.number.1 made)

pub returns-in-Set-clause-same : goal.returns-in-Set-clause-same
returns-in-Set-clause-same c = stays-no c.args.env.now c.meet_value.new.env c.meet_value.result _ c.meet_value.ensures.no

pub returns-in-Set-clause-err : goal.returns-in-Set-clause-err
returns-in-Set-clause-err c = stays-err c.args.env.now c.meet_value.new.env c.meet_value.result c.meet_value.ensures.err
