-- Steps that are taken in one advance, and what begins by them.
use Rattle.std.proofs.Common.{◌≡◌, ◌-◌, ◌≤◌, ap, sym, subst, ◌∙◌, refl, arith, inl, inr}
use Rattle.plprogram.specs.Program.{Program}
use Rattle.plsearch.specs.Types.{Move}
use Rattle.plsearch.specs.Machines.Machine.{Rest}
use Rattle.plsearch.specs.Search.{ending_of}
use Rattle.plstore.specs.Looking.{Views}
use Rattle.plviews.specs.Layers.{Layered}
use Rattle.plstack.specs.Basis.{Basis}
use Rattle.plmachine.specs.declared.machine.Machine.{Machine as Reached}
use Rattle.plmachine.specs.Machine.{IsPlain, MovedBy, SeeksAnew}
use Rattle.plmachine.specs.Machine.{Stays as StaysThere}
use Rattle.plmachine.proofs.Moves.{tied-as}
use Rattle.plsolver.specs.declared.progress.Progress.{Progress}
use Rattle.plsolver.specs.Advancing.{AdvancesTo, BeginsBySteps, NoStep, OneMore, SettlesTo, StepsOn, StepsTo, WalksBySteps}
use Rattle.plsolver.specs.Asking.{activations, in_cases, Onward}
use Rattle.plsolver.specs.Solver.{Selects}
use Rattle.plsolver.proofs.Ending.{ends_same, ends_trans}
use Rattle.plsolver.proofs.Further.{onward_refl, onward_step, onward_trans}
use Rattle.plsolver.proofs.Runs.{goes_nowhere, goes_on, selected-goal}

-- ---- a step, and then no more than it gave back

moved_on : (P : Program) (s t new : Reached) (m : Views → Move) → MovedBy P s t m → StaysThere P t new → new.mode ≡ t.mode → MovedBy P s new m
moved_on P s t new m moved stays mode = record {
  code = ap (λ (b : Basis). b.code) stays.basis ∙ moved.code;
  latest = ap (λ (b : Basis). b.latest.place) stays.basis ∙ moved.latest;
  place = ap (λ (x : Layered). x.place) stays.layer ∙ moved.place;
  walks = ends_trans _ _ _ moved.walks (ends_same _ _ stays.walks);
  seeks = subst SeeksAnew (sym mode) moved.seeks;
  tied = λ tied. tied-as t new stays.basis stays.layer (moved.tied tied);
  askable = stays.askable moved.askable;
  carry = stays.carry moved.carry;
  ends = λ v ordered most left answers. moved.ends v ordered most left answers ∙ ap (λ x. ending_of most (Rest P x)) (sym (stays.same moved.askable v left answers));
}

pub selects_on : (P : Program) (s t new : Reached) → Selects P s t → StaysThere P t new → new.mode ≡ t.mode → Selects P s new
selects_on P s t new did stays mode k x rest goals = moved_on P s t new _ (did k x rest goals) stays mode

-- ---- one after another

settles_on : (P : Program) (a b c : Progress) → SettlesTo P a b → SettlesTo P b c → SettlesTo P a c
settles_on P a b c f g = record {
  goes = goes_on P a b c f.limit f.goes g.goes;
  used = g.used ∙ f.used;
  limit = g.limit ∙ f.limit;
  asks = onward_trans 0 0 0 (activations a.machine) (activations b.machine) (activations c.machine) (omega arith) f.asks g.asks;
}

settles_nowhere : (P : Program) (a : Progress) → SettlesTo P a a
settles_nowhere P a = record { goes = goes_nowhere P a; used = refl; limit = refl; asks = onward_refl 0 (activations a.machine) }

pub advances_nowhere : (P : Program) (a : Progress) → AdvancesTo P a a
advances_nowhere P a = NoStep (settles_nowhere P a)

pub advances_settles : (P : Program) (a b c : Progress) → AdvancesTo P a b → SettlesTo P b c → AdvancesTo P a c
advances_settles P a b c (NoStep f) g = NoStep (settles_on P a b c f g)
advances_settles P a b c (OneMore {due} {taken} far step f) g = OneMore far step (settles_on P taken b c f g)

pub advances_steps : (P : Program) (a b c : Progress) → AdvancesTo P a b → StepsTo P b c → AdvancesTo P a c
advances_steps P a b c far step = OneMore far step (settles_nowhere P c)

pub advances_on : (P : Program) (a b c : Progress) → AdvancesTo P a b → StepsOn b c → AdvancesTo P a c
advances_on P a b c far (inl same) = subst (AdvancesTo P a) (sym same) far
advances_on P a b c far (inr step) = advances_steps P a b c far (step P)

-- ---- what begins

rises : (P : Program) (old new : Progress) → AdvancesTo P old new → old.used ≤ new.used
rises P old new (NoStep f) = omega (arith, f.used)
rises P old new (OneMore {due} {taken} far step f) = omega (arith, rises P old due far, step.stepped.used, f.used)

-- where a goal is selected nothing was sought
step_begins : (P : Program) (old new : Progress) → StepsTo P old new → Onward 1 (activations old.machine) (activations new.machine)
step_begins P old new step =
    let goal = selected-goal old.machine step.selected step.first in
    onward_step old.machine new.machine (subst IsPlain (sym step.first.0) tt) (step.selects goal.0 goal.1 goal.2 goal.3).walks

pub begins_by_steps : BeginsBySteps
begins_by_steps P old new (NoStep f) = onward_trans 0 0 (new.used - old.used) (activations old.machine) (activations new.machine) (activations new.machine) (omega arith) f.asks (onward_refl 0 (activations new.machine))
begins_by_steps P old new (OneMore {due} {taken} far step f) =
    onward_trans (taken.used - old.used) 0 (new.used - old.used) (activations old.machine) (activations taken.machine) (activations new.machine) (omega (arith, f.used))
    (onward_trans (due.used - old.used) 1 (taken.used - old.used) (activations old.machine) (activations due.machine) (activations taken.machine) (omega (arith, rises P old due far, step.stepped.used))
    (begins_by_steps P old due far) (step_begins P due taken step)) f.asks

pub walks_by_steps : WalksBySteps
walks_by_steps P old new part =
    onward_trans (part.reached.used - old.used) 0 (new.used - old.used) (activations old.machine) (activations part.reached.machine) (in_cases new.machine.stack) (omega (arith, part.used))
    (begins_by_steps P old part.reached part.advances) part.walks
