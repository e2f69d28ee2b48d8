-- A walk that went through own clauses: what is left stays, a clause is visited, or the walk is closed.
use Rattle.std.proofs.Common.{◌≡◌, [], ◌∷◌, Option, IfSome, IfNone, refl, sym, ap, ◌∙◌, subst}
use Rattle.plevent.specs.declared.update.ClauseName.{ClauseName}
use Rattle.plprogram.specs.Program.{Program}
use Rattle.plsearch.specs.Types.{Choice}
use Rattle.plstore.specs.Looking.{Views}
use Rattle.plviews.specs.Views.{AreOrdered}
use Rattle.plstack.specs.Basis.{Basis, BasisBehind}
use Rattle.plstack.specs.declared.frame.Closed.{Closed}
use Rattle.plstack.specs.Opening.{ClosedAs}
use Rattle.plstack.specs.Places.{Database}
use Rattle.plstack.specs.State.{State, cases_of, RetriesBy}
use Rattle.plmachine.specs.declared.machine.Outcome.TheVariants as outcomes
use Rattle.plmachine.specs.declared.machine.Mode.TheVariants as modes
use Rattle.plmachine.specs.Clauses.{mode_by}
use Rattle.plmachine.specs.Machine.{MayCarry}
use Rattle.plsolver.specs.declared.progress.Progress.{Progress}
use Rattle.plsolver.specs.Going.{HasEnded, SameCases}
use Rattle.plsolver.specs.Solver.{Keeps, QuietIn}
use Rattle.plsolver.proofs.Quiets.{at_stack, back-may, db_in, quiet-close, quiet-retry-by, same-of}
use Rattle.plsolver.proofs.Trying.{closes-choice, retries-same, went-on}

-- its stack is another one
abbrev pub OverStack : Progress → Progress → Type 0
OverStack s t = t ≡ record s { machine = record s.machine { stack = t.machine.stack } }

pub over-trans : (r s t : Progress) → OverStack r s → OverStack s t → OverStack r t
over-trans r s t a b = b ∙ ap (λ (x : Progress). record x { machine = record x.machine { stack = t.machine.stack } }) a

module _ (P : Program) (s : Progress) (fails : s.machine.mode ≡ modes.Back outcomes.Fail) where
  -- what is left stays
  keeps-at : (st : State) → st.basis ≡ s.machine.stack.basis → SameCases s.machine (at_stack s st).machine → Keeps P s (at_stack s st)
  keeps-at st basis same = record {
    used = refl;
    limit = refl;
    places = refl;
    of = same-of P s.machine (at_stack s st).machine basis refl (λ last. last) (back-may s.machine.layer.own st s.machine.mode outcomes.Fail fails) (λ sound. subst (MayCarry st) (sym fails) tt);
    latest = ap (λ (b : Basis). b.latest.place) basis;
    plain = λ plain. plain;
    keeps = λ v ordered. record { used = refl; limit = refl; rest = went-on P v s.machine st fails (same P v ordered) };
  }

  pub keeps-through : (t : Progress) → OverStack s t → t.machine.stack.basis ≡ s.machine.stack.basis → SameCases s.machine t.machine → Keeps P s t
  keeps-through t there basis same = subst (Keeps P s) (sym there) (keeps-at t.machine.stack basis (subst (λ (x : Progress). SameCases s.machine x.machine) there same))

  -- a clause that fits is visited
  pub visits-through : (v : Views) → AreOrdered v → (t w : Progress) (x : Option ClauseName) → OverStack s w → w.machine.stack.basis ≡ s.machine.stack.basis → OverStack s t → SameCases s.machine t.machine →
      RetriesBy (db_in P v t.machine) t.machine.stack w.machine.stack x → QuietIn P v s (record w { machine = record w.machine { mode = mode_by x } })
  visits-through v ordered t w x there basis over same retries =
      subst (λ (y : Progress). QuietIn P v s (record y { machine = record y.machine { mode = mode_by x } })) (sym there)
      (quiet-retry-by P v s w.machine.stack x fails basis
      (retries-same (db_in P v s.machine) s.machine.stack t.machine.stack w.machine.stack x
      (ap (λ (y : Progress). cases_of (db_in P v y.machine) t.machine.stack) (sym over) ∙ same P v ordered)
      (subst (λ (y : Progress). RetriesBy (db_in P v y.machine) t.machine.stack w.machine.stack x) over retries)))

  -- nothing is left of it: it is closed
  pub closes-through : (v : Views) → AreOrdered v → (t w : Progress) (st : State) (o : Option Closed) → OverStack s w → w.machine.stack.basis ≡ s.machine.stack.basis → SameCases s.machine t.machine → HasEnded t.machine w.machine →
      IfSome o (λ c. (db : Database) → ClosedAs db w.machine.stack st c) → IfNone o ((db : Database) → cases_of db w.machine.stack ≡ []) → IfSome o (λ c. BasisBehind c w.machine.stack.basis st.basis) → QuietIn P v s (record w { machine = record w.machine { stack = st } })
  closes-through v ordered t w st o there basis same ended some none behind =
      let e = ended P v ordered in
      let is : cases_of (db_in P v s.machine) w.machine.stack ≡ Choice [] ∷ e.0 = ap (λ (y : Progress). cases_of (db_in P v y.machine) w.machine.stack) (sym there) ∙ e.2 in
      let closed = closes-choice w.machine.stack st o (db_in P v s.machine) e.0 is some none behind in
      subst (λ (y : Progress). QuietIn P v s (record y { machine = record y.machine { stack = st } })) (sym there)
      (quiet-close P v s st fails (closed.1 ∙ basis) (sym (same P v ordered) ∙ e.1 ∙ ap (λ cs. Choice [] ∷ cs) (sym closed.0)))
