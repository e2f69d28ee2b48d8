-- The turns of handlers: of a ball that may be caught, and of failure where copies are gathered.
use Rattle.std.specs.Option.{option_map}
use Rattle.std.proofs.Common.{◌≡◌, ℕ, ◌+◌, true, List, ◌∷◌, refl, sym, ap, ap₂, ◌∙◌, Some, None, length, subst, if◌then◌else◌}
use Rattle.plterm.specs.Tree.{Tree}
use Rattle.plterm.specs.Variables.{copied, variables}
use Rattle.plsubst.specs.Subst.{bind}
use Rattle.plsubst.specs.Unify.{unify}
use Rattle.plcells.specs.declared.cell.Cell.{Cell}
use Rattle.plcells.specs.Store.{value}
use Rattle.plevent.specs.Search.{Answer}
use Rattle.plread.specs.Texts.{listed}
use Rattle.plstore.specs.Looking.{Views}
use Rattle.plviews.specs.Layers.{Layered}
use Rattle.plprogram.specs.Program.{Program}
use Rattle.plsearch.specs.Types.{Fail, Throw, Element, Keep, Case, Kept, Local, Supply}
use Rattle.plsearch.specs.Lists.{bind_goals}
use Rattle.plsearch.specs.Running.{runnable}
use Rattle.plsearch.specs.Collecting.{copies_from, count_new, dropped, gathered, kept_below, renumbered}
use Rattle.plsearch.specs.Rows.{catching, gathering, solved}
use Rattle.plsearch.specs.Handlers.{resume, has, met_by, recovers, goes_on}
use Rattle.plsearch.specs.Engine.{deeper}
use Rattle.plsearch.specs.Machines.Machine.{At, Back, return, turn}
use Rattle.pllinks.specs.declared.link.Continuation.{Continuation}
use Rattle.plstack.specs.Basis.{Basis}
use Rattle.plstack.specs.Levels.{AreNamed}
use Rattle.plstack.specs.Places.{Database}
use Rattle.plstack.specs.State.{State, place_of, cases_of, goals_of}
use Rattle.plmachine.specs.declared.machine.Outcome.{Outcome}
use Rattle.plmachine.specs.declared.machine.Outcome.TheVariants as outcomes
use Rattle.plmachine.specs.declared.machine.Mode.TheVariants as modes
use Rattle.plmachine.specs.declared.machine.Machine.{Machine as Reached}
use Rattle.plmachine.specs.Machine.{result_of, mode_of, below_in, local_of, cases_in, machine, run_in, IsFinal, IsLast, IsPlain, MayAsk, MayCarry}
use Rattle.plmachine.proofs.Moves.{machine-is}
use Rattle.plsolver.specs.declared.progress.Progress.{Progress}
use Rattle.plsolver.specs.Solver.{QuietIn, Recovered}
use Rattle.plsolver.proofs.Quiets.{at_stack, back-may, carried, carried-behind, db_in, from-fail, quiet, quiet-at, same-of, some_case}

-- the turn of an active catcher
module _ (P : Program) (v : Views) (s : Progress) (o : Outcome) (ball : Tree) (found : List ℕ) (at : s.machine.mode ≡ modes.Back o) (carries : result_of o ≡ Throw ball found) (c r : Tree) (gs : List Element) (n : ℕ) (below : List Case)
    (was : cases_in P v s.machine ≡ catching c r gs n ∷ below) (active : has (deeper below 0) found ≡ true) where
  catcher-turn : (left : ℕ) (answers : List Answer) → turn P (machine P v left answers s.machine) ≡
      return below (run_in v left answers s.machine) (met_by (unify c (copied n ball)) r ball found (record { goals = gs; variables = n }) (deeper below 0) (local_of s.machine))
  unfolding turn resume
  catcher-turn left answers =
      let run : Supply = run_in v left answers s.machine in
      ap (turn P) (carried P v s.machine o (catching c r gs n ∷ below) at was left answers ∙ ap (λ x. record { mode = Back x; cases = catching c r gs n ∷ below; run = run }) carries)
      ∙ ap (λ b. return below run (if b then met_by (unify c (copied n ball)) r ball found (record { goals = gs; variables = n }) (deeper below 0) (local_of s.machine) else Keep (Throw ball found) (local_of s.machine))) active

  -- the ball is another
  pub quiet-other : (st : State) → st.basis ≡ s.machine.stack.basis → unify c (copied n ball) ≡ None → cases_of (db_in P v s.machine) st ≡ below → ((ls : List ℕ) (db : Database) → AreNamed ls (cases_of db s.machine.stack) → AreNamed ls (cases_of db st)) →
      QuietIn P v s (at_stack s st)
  quiet-other st basis none below_is less =
      quiet P v s (subst IsPlain (sym at) tt) st s.machine.mode basis (λ last. last) (back-may s.machine.layer.own st s.machine.mode o at) (λ is. carried-behind s.machine.stack st s.machine.mode o at less is.carry) (subst IsPlain (sym at) tt)
      (λ left answers few.
      let run : Supply = run_in v left answers s.machine in
      carried P v (record s.machine { stack = st }) o below at below_is left answers
      ∙ ap (λ x. record { mode = Back x; cases = below; run = run }) carries
      ∙ sym (catcher-turn left answers ∙ ap (λ σ. return below run (met_by σ r ball found (record { goals = gs; variables = n }) (deeper below 0) (local_of s.machine))) none))
      (λ x is no. some_case _ _ _ was no)

  -- the ball was caught, and the recovery is run
  pub quiet-caught : (st : State) (new : Progress) (σ : ℕ → Tree) (recovery : Cell) (list : Continuation) (h : Case) → st.basis ≡ s.machine.stack.basis → unify c (copied n ball) ≡ Some σ → value st.env.heap recovery ≡ bind σ r →
      goals_of st list ≡ bind_goals σ gs → st.env.count ≡ n + length (variables ball) → cases_of (db_in P v s.machine) st ≡ h ∷ below → Recovered P (at_stack s st) new recovery list → QuietIn P v s new
  quiet-caught st new σ recovery list h basis some runs goals count was_st did =
      let t : Reached = record s.machine { stack = new.machine.stack; mode = new.machine.mode; kept = new.machine.kept } in
      subst (QuietIn P v s) (sym did.frame)
      (quiet-at P v s (subst IsPlain (sym at) tt) t
      (same-of P s.machine t (did.basis ∙ basis) refl (λ last. absurd (not-last o carries (subst IsLast at last))) (subst (λ (x : Layered). MayAsk x.own new.machine.stack new.machine.mode) (ap (λ x. x.machine.layer) did.frame) did.askable) (λ is. did.carry))
      (ap (λ (b : Basis). b.latest.place) (did.basis ∙ basis)) did.plain
      (λ left answers few.
      let w : Local = local_of s.machine in
      let run : Supply = run_in v left answers s.machine in
      ap (λ x. machine P v left answers x.machine) (sym did.frame)
      ∙ did.is v h below was_st left answers
      ∙ ap₂ (λ u es. return below run (recovers (runnable u) (deeper below 0) es st.env.count w)) runs goals
      ∙ ap (λ k. return below run (recovers (runnable (bind σ r)) (deeper below 0) (bind_goals σ gs) k w)) count
      ∙ sym (catcher-turn left answers ∙ ap (λ σ. return below run (met_by σ r ball found (record { goals = gs; variables = n }) (deeper below 0) w)) some))
      (λ x is no. some_case _ _ _ was no))
    where
      not-last : (o : Outcome) → result_of o ≡ Throw ball found → IsFinal o → ⊥
      not-last outcomes.Stop e last = cc
      not-last outcomes.Fail e last = last
      not-last (outcomes.Throw b ls) e last = last
      not-last (outcomes.Halted k) e last = cc
      not-last outcomes.Spent e last = cc

-- the turn of failure where copies are gathered
module _ (P : Program) (v : Views) (s : Progress) (at : s.machine.mode ≡ modes.Back outcomes.Fail) (l : Tree) (gs : List Element) (n : ℕ) (below : List Case) (was : cases_in P v s.machine ≡ gathering l gs n ∷ below) where
  abbrev level : ℕ
  level = deeper below 0

  abbrev copies : List Tree
  copies = copies_from level s.machine.kept

  abbrev left_over : Local
  left_over = dropped level (local_of s.machine)

  gather-turn : (left : ℕ) (answers : List Answer) → turn P (machine P v left answers s.machine) ≡
      return below (run_in v left answers s.machine) (goes_on (solved gs n (gathered l copies n)) left_over)
  unfolding turn resume
  gather-turn left answers = ap (turn P) (carried P v s.machine outcomes.Fail (gathering l gs n ∷ below) at was left answers)

  module _ (st : State) (basis : st.basis ≡ s.machine.stack.basis) (below_is : cases_of (db_in P v s.machine) st ≡ below) (kept : List Kept) (kept_is : kept ≡ kept_below level s.machine.kept) where
    local-is : (local_of (record s.machine { kept = kept })) ≡ left_over
    local-is = ap (λ k. record (local_of s.machine) { kept = k }) kept_is

    -- the list has no unifier with the term
    pub quiet-unlike : unify l (listed (renumbered n copies)) ≡ None → QuietIn P v s (record s { machine = record s.machine { stack = st; kept = kept } })
    quiet-unlike none =
        let t : Reached = record s.machine { stack = st; kept = kept } in
        quiet-at P v s (subst IsPlain (sym at) tt) t (same-of P s.machine t basis refl (λ last. last) (back-may s.machine.layer.own st s.machine.mode outcomes.Fail at) (λ is. subst (MayCarry st) (sym at) tt)) (ap (λ (b : Basis). b.latest.place) basis)
        (subst IsPlain (sym at) tt)
        (λ left answers few.
        machine-is P v t (Back Fail) below (below_in v s.machine) left_over (subst IsPlain (sym at) tt) (ap (λ m. mode_of m st) at) below_is refl local-is left answers
        ∙ sym (gather-turn left answers ∙ ap (λ o. return below (run_in v left answers s.machine) (goes_on (option_map (λ σ. record { goals = bind_goals σ gs; variables = n + count_new copies }) o) left_over)) none))
        (λ x is no. some_case _ _ _ was no)

    -- the list goes on
    pub quiet-gathered : (σ : ℕ → Tree) → unify l (listed (renumbered n copies)) ≡ Some σ → place_of st ≡ record { goals = bind_goals σ gs; variables = n + count_new copies } →
        QuietIn P v s (record s { machine = record s.machine { stack = st; mode = modes.Visit; kept = kept } })
    quiet-gathered σ some place =
        let t : Reached = record s.machine { stack = st; mode = modes.Visit; kept = kept } in
        quiet-at P v s (subst IsPlain (sym at) tt) t (same-of P s.machine t basis refl (from-fail s.machine modes.Visit at) tt (λ is. tt)) (ap (λ (b : Basis). b.latest.place) basis) tt
        (λ left answers few.
        machine-is P v t (At (record { goals = bind_goals σ gs; variables = n + count_new copies })) below (below_in v s.machine) left_over tt (ap At place) below_is refl local-is left answers
        ∙ sym (gather-turn left answers ∙ ap (λ o. return below (run_in v left answers s.machine) (goes_on (option_map (λ σ. record { goals = bind_goals σ gs; variables = n + count_new copies }) o) left_over)) some))
        (λ x is no. some_case _ _ _ was no)
