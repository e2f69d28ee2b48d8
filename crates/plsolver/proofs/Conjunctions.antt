-- The step of a conjunction, behind which a goal is due at once.
use Rattle.std.proofs.Common.{◌≡◌, ℕ, ◌+◌, ◌≤◌, [], ◌∷◌, codes, refl, sym, ap₂, subst}
use Rattle.plprogram.specs.Program.{Program}
use Rattle.plsearch.specs.Types.{Marker}
use Rattle.plcode.specs.declared.op.Step.{Step}
use Rattle.plcode.specs.Steps.{of_two}
use Rattle.pllinks.specs.declared.item.MarkerKind.{MarkerKind}
use Rattle.pllinks.specs.declared.link.Continuation.{Continuation}
use Rattle.pllinks.specs.Lists.{marker_of}
use Rattle.plstack.specs.declared.first.First.TheVariants as firsts
use Rattle.plstack.specs.State.{State, goals_of}
use Rattle.plstack.specs.First.{AtBoth, IsFirst, IsStep}
use Rattle.plmachine.specs.declared.machine.Mode.TheVariants as modes
use Rattle.plmachine.specs.Machine.{IsLast}
use Rattle.plsolver.specs.declared.progress.Selected.TheVariants as goals
use Rattle.plsolver.specs.declared.progress.Progress.{Progress}
use Rattle.plsolver.specs.Advancing.{StepsTo}
use Rattle.plsolver.specs.Solver.{IsOf, Selects}
use Rattle.plsolver.proofs.Runs.{moved_of, selects-both, steps}

module _ (s : Progress) (next : Continuation) (x : Step) (at : s.machine.mode ≡ modes.Visit) (b : AtBoth s.machine.stack (goals_of s.machine.stack s.machine.stack.goals) next x) where
  module _ (st : State) (is : st ≡ record s.machine.stack { goals = next }) where
    abbrev pub behind : Progress
    behind = record s { machine = record s.machine { stack = st }; used = s.used + 1 }

    pub both-selects : (P : Program) → Selects P s.machine (record s.machine { stack = st })
    both-selects P = selects-both P s.machine (record s.machine { stack = st }) next x b (ap₂ (λ z m. record s.machine { stack = z; mode = m }) is at)

    pub both-steps : s.used + 1 ≤ s.limit → (P : Program) → StepsTo P s behind
    both-steps some P = record {
      selected = goals.Both next x;
      first = (at, b);
      selects = both-selects P;
      stepped = steps P s behind b.level (of_two (codes ",") b.left b.right) b.rest at b.goals some (both-selects P) refl refl refl;
    }

    pub both-of : (P : Program) → IsOf P s.machine → IsOf P (record s.machine { stack = st })
    both-of P of = moved_of P s.machine (record s.machine { stack = st }) _ of (λ last. subst IsLast at last) (both-selects P _ _ _ b.goals)

    -- the run of the visited list begins with the step
    pub both-step : IsStep st.basis.code.text st.goals.run.position x
    both-step = subst (λ (z : State). IsStep z.basis.code.text z.goals.run.position x) (sym is) b.step

    -- so a goal stands first
    pub both-nothing : IsFirst st firsts.Nothing → ⊥
    both-nothing i =
        let none = subst (λ (z : State). goals_of z z.goals ≡ []) is i in
        cc (none, b.next_goals)

    pub both-marker : (m : MarkerKind) (l : ℕ) (rest : Continuation) → IsFirst st (firsts.Marker m l rest) → ⊥
    both-marker m l rest i =
        let marker = subst (λ (z : State). goals_of z z.goals ≡ Marker (marker_of st.env.heap m) l ∷ goals_of st rest) is i.goals in
        cc (marker, b.next_goals)
