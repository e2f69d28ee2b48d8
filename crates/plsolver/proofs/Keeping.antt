-- What a search keeps that goes on without a step or an answer.
use Rattle.std.proofs.Common.{◌≡◌, ℕ, ◌-◌, ◌≤◌, List, min, reverse, refl, sym, ap, ap₂, ◌∙◌, subst, arith}
use Rattle.plevent.specs.Search.{Answer}
use Rattle.plprogram.specs.Program.{Program}
use Rattle.plsearch.specs.Machines.Machine.{Rest}
use Rattle.plsearch.specs.Search.{ending_of}
use Rattle.plsearch.specs.Solving.{Goes}
use Rattle.plstore.specs.Looking.{Views}
use Rattle.plviews.specs.Views.{AreOrdered}
use Rattle.plstack.specs.Places.{walks_of}
use Rattle.plstack.specs.State.{State, Extends}
use Rattle.plmachine.specs.declared.machine.Outcome.TheVariants as outcomes
use Rattle.plmachine.specs.declared.machine.Find.{Find}
use Rattle.plmachine.specs.declared.machine.Mode.TheVariants as modes
use Rattle.plmachine.specs.declared.machine.Machine.{Machine as Reached}
use Rattle.plmachine.specs.Machine.{now, IsPlain, MayAsk, MayCarry}
use Rattle.plmachine.proofs.Moves.{begun-by, stays-by, tied-as}
use Rattle.plsolver.specs.declared.progress.Progress.{Progress}
use Rattle.plsolver.specs.Solver.{latest_view, rest_of, GoesTo, IsOf, Keeps, KeepsRest, Stays}
use Rattle.plsolver.proofs.Runs.{stays_of}
use Rattle.plsolver.proofs.Seeking.{finds-last, finds-plain}

pub keeps_same : (P : Program) (s : Progress) → Keeps P s s
keeps_same P s = record { used = refl; limit = refl; places = refl; of = λ of. of; latest = refl; plain = λ plain. plain; keeps = λ v ordered. record { used = refl; limit = refl; rest = λ most left answers. refl } }

pub keeps_trans : (P : Program) (r s t : Progress) → Keeps P r s → Keeps P s t → Keeps P r t
keeps_trans P r s t a b = record {
  used = b.used ∙ a.used;
  limit = b.limit ∙ a.limit;
  places = b.places ∙ a.places;
  of = λ of. b.of (a.of of);
  latest = b.latest ∙ a.latest;
  plain = λ plain. b.plain (a.plain plain);
  keeps = λ v ordered.
      let x = a.keeps v ordered in
      let y = b.keeps v ordered in
      record { used = y.used ∙ x.used; limit = y.limit ∙ x.limit; rest = λ most left answers. x.rest most left answers ∙ y.rest most left answers };
}

-- what stands where it stood
pub stays_keeps_by : (P : Program) (s t : Progress) → MayAsk s.machine.layer.own s.machine.stack s.machine.mode → Stays P s t → Keeps P s t
stays_keeps_by P s t may stay = record {
  used = stay.used;
  limit = stay.limit;
  places = stay.places;
  of = λ of. stays_of P s t of stay;
  latest = ap (λ b. b.latest.place) stay.there.basis;
  plain = λ plain. subst IsPlain (sym (stay.there.mode plain)) plain;
  keeps = λ v ordered. record { used = stay.used; limit = stay.limit; rest = λ most left answers. ap (λ m. ending_of most (Rest P m)) (sym (stay.there.same may v left answers)) };
}

pub stays_keeps : (P : Program) (s t : Progress) → IsOf P s.machine → Stays P s t → Keeps P s t
stays_keeps P s t of stay = stays_keeps_by P s t of.sound.askable stay

-- values were added
pub put-stays : (P : Program) (s : Progress) (st : State) → Extends s.machine.stack st → st.env.count ≡ s.machine.stack.env.count → Stays P s (record s { machine = record s.machine { stack = st } })
put-stays P s st e count = record {
  used = refl;
  limit = refl;
  places = refl;
  there = stays-by P s.machine (record s.machine { stack = st }) e.basis refl (ap (λ fs. walks_of (reverse fs)) e.frames) refl e.values (ap₂ (λ es n. record { goals = es; variables = n }) e.visited count) e.cases refl;
}

-- what is left stays, whatever the limit
pub rest-goes : (P : Program) (v : Views) (s t : Progress) → s.used ≤ s.limit → KeepsRest P v s t → Goes s.limit (rest_of P v s) s.used (rest_of P v t) t.used
unfolding rest_of
rest-goes P v s t within k = (
  omega (arith, k.used),
  (λ le. omega (arith, k.used, le)),
  λ n answers le.
      k.rest (min n s.limit) (min n s.limit - s.used) answers
      ∙ ap₂ (λ l u. now P v t.machine (min n l) (min n l - u) answers) (sym k.limit) (sym k.used),
)

pub keeps-goes : (P : Program) (s t : Progress) → s.used ≤ s.limit → Keeps P s t → GoesTo P s t
unfolding GoesTo
keeps-goes P s t within k v ordered = rest-goes P v s t within (k.keeps v ordered)

-- ---- what was sought

-- where it was found the machine goes on
pub finds_keeps : (P : Program) (s new : Progress) (f : Find) → s.machine.mode ≡ modes.Find f → new ≡ record s { machine = new.machine } → latest_view new ≡ latest_view s → (IsOf P s.machine → IsOf P new.machine) →
    ((v : Views) → AreOrdered v → (most left : ℕ) (answers : List Answer) → now P v s.machine most left answers ≡ now P v new.machine most left answers) → Keeps P s new
finds_keeps P s new f at frame latest of rest = record {
  used = ap (λ x. x.used) frame;
  limit = ap (λ x. x.limit) frame;
  places = ap (λ x. x.places.items) frame;
  of = of;
  latest = latest;
  plain = λ plain. absurd (finds-plain s.machine.mode f at plain);
  keeps = λ v ordered. record { used = ap (λ x. x.used) frame; limit = ap (λ x. x.limit) frame; rest = rest v ordered };
}

-- a result is carried in place of what was sought
pub found_of : (P : Program) (s new : Reached) (f : Find) → s.mode ≡ modes.Find f → new.mode ≡ modes.Back outcomes.Fail → new.layer ≡ s.layer → new.stack.basis ≡ s.stack.basis → IsOf P s → IsOf P new
found_of P s new f at is layer basis of = record {
  begun = begun-by P new.stack.basis s.stack.basis basis of.begun;
  sound = record {
    tied = λ more. tied-as s new basis layer (of.sound.tied (finds-last s.mode f at));
    askable = subst (MayAsk new.layer.own new.stack) (sym is) tt;
    carry = subst (MayCarry new.stack) (sym is) tt;
  };
}
