-- Own updates in views: they erase no clause by a name of their place but own ones.
use Rattle.std.proofs.Common.{◌≡◌, ℕ, zero, suc, Bool, true, false, List, [], ◌∷◌, take, Option, None, refl, sym, ap, ◌∙◌, subst, arith}
use Rattle.plterm.specs.Tree.{Tree}
use Rattle.plclause.specs.Indicators.{indicator}
use Rattle.plevent.specs.declared.update.ClauseName.{ClauseName}
use Rattle.plevent.specs.declared.update.Update.{Update}
use Rattle.plevent.specs.Keys.{first_key}
use Rattle.pltx.specs.Own.{any_open, nothing}
use Rattle.pltx.specs.declared.own.OwnCursor.TheVariants.{Start as OwnStart}
use Rattle.pltx.specs.Walks.{AllErasedApart}
use Rattle.plviews.specs.declared.lookup.Reach.{Reach}
use Rattle.plviews.specs.declared.lookup.Reach.TheVariants as reaches
use Rattle.plviews.specs.declared.lookup.Step.{Step}
use Rattle.plviews.specs.declared.view.View.{View}
use Rattle.plviews.specs.Views.{sight}
use Rattle.plviews.specs.Lookups.{likely, rest_at, SaysAt, SaysFound}
use Rattle.plstack.specs.Basis.{IsShown}
use Rattle.plmachine.specs.declared.machine.Machine.{Machine as Reached}
use Rattle.plmachine.specs.Machine.{IsTied}
use Rattle.plviews.proofs.Telling.{base-over, says-same}
use Rattle.plsolver.specs.Knowing.{IsApart, Steps, StepsFound, Tells, TellsFound}

taken : (b n : ℕ) (us : List Update) → AllErasedApart b us → AllErasedApart b (take n us)
taken b zero us all = tt
taken b (suc n) [] all = tt
taken b (suc n) (u ∷ us) all = (all.0, taken b n us all.1)

none-taken : (b n : ℕ) → AllErasedApart b (take n [])
none-taken b zero = tt
none-taken b (suc n) = tt

-- in a view that may be seen
pub view-apart : (s : Reached) (g : View) → IsTied s → AllErasedApart s.layer.own.base s.layer.own.updates → (any_open s.layer.own ≡ false → s.layer.own ≡ nothing) → IsShown g s.stack.basis.latest → IsApart s.layer.own.updates g
view-apart s g tied all closed shown = by-open (any_open s.layer.own) refl
  where
    by-count : (n : ℕ) → g.count ≡ n → any_open s.layer.own ≡ true → IsApart s.layer.own.updates g
    by-count zero none open_now = subst (λ n. AllErasedApart g.place (take n s.layer.own.updates)) (sym none) tt
    by-count (suc n) some open_now =
        let place : g.place ≡ s.layer.own.base = shown.own (omega (arith, some)) ∙ tied.base open_now in
        subst (λ b. AllErasedApart b (take g.count s.layer.own.updates)) (sym place) (taken s.layer.own.base g.count s.layer.own.updates all)

    by-open : (b : Bool) → any_open s.layer.own ≡ b → IsApart s.layer.own.updates g
    by-open true is = by-count g.count refl is
    by-open false is = subst (λ us. AllErasedApart g.place (take g.count us)) (sym (ap (λ o. o.updates) (closed is))) (none-taken g.place g.count)

-- so what a step says holds on top of any batches
pub tells-from : (own : List Update) (h : Tree) (g : View) (r : Reach) (step : Step) → IsApart own g → SaysAt own g (indicator h) (first_key h) r step → Tells own h g r step
tells-from own h g r step apart says us ordered under = says us (record { ordered = ordered; under = under; erased = apart })

pub tells-found : (own : List Update) (h : Tree) (g : View) (found : Option ClauseName) (step : Step) → IsApart own g → SaysFound own g (indicator h) (first_key h) found step → TellsFound own h g found step
tells-found own h g found step apart says us c ordered under e = says us c (record { ordered = ordered; under = under; erased = apart }) e

-- where the journal has no further clause, the own ones come that were put behind
pub found-none : (own : List Update) (h : Tree) (g : View) (step : Step) → Steps own h g (reaches.Back OwnStart) step → StepsFound own h g None step
found-none own h g step back = record {
  tells = λ us c ordered under e.
      let s = sight us g own in
      says-same s (indicator h) (first_key h) (likely (first_key h) (rest_at s (indicator h) (reaches.Back OwnStart))) (likely (first_key h) (rest_at s (indicator h) (reaches.Base c))) step
      (base-over s (indicator h) (first_key h) ordered under c e) (back.tells us ordered under);
  leads = back.leads;
}
