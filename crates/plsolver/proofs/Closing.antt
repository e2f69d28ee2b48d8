-- The innermost case is closed, where it has no part in the result.
use Rattle.std.proofs.Common.{◌≡◌, ◌-◌, true, inl, inr, ap, ◌∙◌, arith, Option, Some, None, IfNone}
use Rattle.plstore.specs.Looking.{Views}
use Rattle.plprogram.specs.Program.{Program}
use Rattle.plsearch.specs.Engine.{deeper}
use Rattle.plstack.specs.Basis.{BasisBehind}
use Rattle.plstack.specs.Opening.{ClosedAs}
use Rattle.plstack.specs.Places.{Database}
use Rattle.plstack.specs.State.{State, cases_of, HasCatcher, HasGatherer, HasUndo, HasWalk}
use Rattle.plstack.specs.declared.frame.Closed.{Closed}
use Rattle.plstack.specs.declared.frame.Closed.TheVariants as closes
use Rattle.plstack.proofs.Stacks.{depth-in}
use Rattle.plmachine.specs.declared.machine.Outcome.TheVariants as outcomes
use Rattle.plmachine.specs.declared.machine.Mode.TheVariants as modes
use Rattle.plmachine.specs.Machine.{depth_of}
use Rattle.plsolver.specs.declared.progress.Progress.{Progress}
use Rattle.plsolver.specs.Solver.{throws_to, HasChoice, IsBack, QuietIn}
use Rattle.plsolver.proofs.Quiets.{at_stack, db_in, quiet-choice, quiet-handler}

module _ (P : Program) (v : Views) (s : Progress) (st : State) (back : IsBack s) (undone : HasUndo s.machine.stack → ⊥) (tried : s.machine.mode ≡ modes.Back outcomes.Fail → HasChoice s.machine.stack → ⊥)
    (walked : s.machine.mode ≡ modes.Back outcomes.Fail → HasWalk s.machine.stack → ⊥) (caught : HasCatcher s.machine.stack → throws_to (depth_of s.machine - 1) s.machine.mode ≡ true → ⊥)
    (gathered : HasGatherer s.machine.stack → s.machine.mode ≡ modes.Back outcomes.Fail → ⊥) where
  abbrev db : Database
  db = db_in P v s.machine

  pub quiet-closes : (k : Closed) → ((db : Database) → ClosedAs db s.machine.stack st k) → BasisBehind k s.machine.stack.basis st.basis → QuietIn P v s (at_stack s st)
  quiet-closes closes.Choice closed basis =
      quiet-choice P v s st back basis (λ db. (closed db).0) (λ db. (closed db).1)
      (λ f. (closed db).2 (λ has. tried f (inr (inl has))) (λ has. walked f has) (λ has. tried f (inl has)) (λ has. tried f (inr (inr has))))
  quiet-closes closes.Handler closed basis =
      let deep : depth_of s.machine - 1 ≡ deeper (cases_of db st) 0 = omega (arith, depth-in db s.machine.stack, ap (λ cs. deeper cs 0) (closed db).2) in
      quiet-handler P v s st (λ db. (closed db).0) (λ db. (closed db).1) back basis (λ db. (closed db).2)
      (λ c x is yes. (closed db).3 c x is (λ has. caught has (ap (λ d. throws_to d s.machine.mode) deep ∙ yes)))
      (λ l is fails. (closed db).4 l is (λ has. gathered has fails))
      (closed db).5
  quiet-closes closes.Transaction closed basis = absurd (undone (closed db).2)

-- one turn, unless no case is open
pub if_closes : {A : Type 0} (K : Program → Type 0) (r : Option A) → IfNone r ((P : Program) → K P) → (P : Program) → IfNone r (K P)
if_closes K None closes P = closes P
if_closes K (Some x) closes P = tt
