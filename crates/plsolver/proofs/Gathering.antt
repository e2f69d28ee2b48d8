-- Failure where copies are gathered, over the stack.
use Rattle.std.proofs.Common.{◌≡◌, ℕ, ◌+◌, List, ◌∷◌, sym, ap, ap₂, ◌∙◌, subst, arith, Some, None}
use Rattle.plsubst.specs.Unify.{unify}
use Rattle.plterm.specs.Tree.{Tree}
use Rattle.plcells.specs.declared.cell.Cell.{Cell}
use Rattle.plcells.specs.Store.{value}
use Rattle.plread.specs.Texts.{listed}
use Rattle.plprogram.specs.Program.{Program}
use Rattle.plsearch.specs.Types.{Case, Kept}
use Rattle.plsearch.specs.Collecting.{copies_from, count_new, kept_below, renumbered}
use Rattle.plsearch.specs.Rows.{gathering}
use Rattle.plsearch.specs.Engine.{deeper}
use Rattle.pllinks.specs.declared.link.Continuation.{Continuation}
use Rattle.plstack.specs.declared.frame.Handler.TheVariants as handlers
use Rattle.plstore.specs.Looking.{Views}
use Rattle.plstack.specs.Places.{Database}
use Rattle.plstack.specs.State.{State, IsList, HasHandler, AtHandler, Extends, Leaves, cases_of, goals_of}
use Rattle.plmachine.specs.declared.machine.Outcome.TheVariants as outcomes
use Rattle.plmachine.specs.declared.machine.Mode.TheVariants as modes
use Rattle.plmachine.specs.Machine.{cases_in}
use Rattle.plmachine.specs.Gathering.{Gathers}
use Rattle.plsolver.specs.declared.progress.Progress.{Progress}
use Rattle.plsolver.specs.Solver.{QuietIn}
use Rattle.plsolver.proofs.Quiets.{db_in}
use Rattle.plsolver.proofs.Handling.{quiet-unlike, quiet-gathered}
use Rattle.plsolver.proofs.Catches.{handler-stays}

module _ (P : Program) (v : Views) (s : Progress) (at : s.machine.mode ≡ modes.Back outcomes.Fail) (st : State) (list : Continuation) (c : Cell) (basis : st.basis ≡ s.machine.stack.basis)
    (same : (db : Database) → cases_of db st ≡ cases_of db s.machine.stack) (here : AtHandler st (handlers.Gather c) list) (level : ℕ) (up : (db : Database) → deeper (cases_of db st) 0 ≡ level + 1) where
  abbrev whole : Tree
  whole = value st.env.heap c

  abbrev below : List Case
  below = here.below (db_in P v s.machine)

  cases-are : cases_in P v s.machine ≡ gathering whole (goals_of st list) st.env.count ∷ below
  cases-are = sym (same (db_in P v s.machine)) ∙ here.cases (db_in P v s.machine)

  at-level : level ≡ deeper below 0
  at-level = omega (arith, up (db_in P v s.machine), ap (λ cs. deeper cs 0) (here.cases (db_in P v s.machine)))

  pub gathers-other : (put last : State) (kept : List Kept) → Extends st put → unify whole (listed (renumbered st.env.count (copies_from level s.machine.kept))) ≡ None →
      ((h : Case) (below : List Case) → cases_of (db_in P v s.machine) put ≡ h ∷ below → cases_of (db_in P v s.machine) last ≡ below) → last.basis ≡ put.basis → kept ≡ kept_below level s.machine.kept →
      QuietIn P v s (record s { machine = record s.machine { stack = last; kept = kept } })
  gathers-other put last kept grew none closed stays dropped =
      quiet-unlike P v s at whole (goals_of st list) st.env.count below cases-are last (stays ∙ grew.basis ∙ basis)
      (closed _ below (grew.cases (db_in P v s.machine) ∙ here.cases (db_in P v s.machine))) kept (dropped ∙ ap (λ d. kept_below d s.machine.kept) at-level)
      (subst (λ d. unify whole (listed (renumbered st.env.count (copies_from d s.machine.kept))) ≡ None) at-level none)

  module _ (put : State) (g : Gathers st put whole (copies_from level s.machine.kept)) where
    pub list-there : IsList put list
    list-there = (g.lists list here.list_there).0

    pub handler-there : HasHandler put
    handler-there = handler-stays st put g.frames here.has

    pub gathers-it : (last : State) (kept : List Kept) → Leaves put last list → last.basis ≡ put.basis → kept ≡ kept_below level s.machine.kept →
        QuietIn P v s (record s { machine = record s.machine { stack = last; mode = modes.Visit; kept = kept } })
    gathers-it last kept did stays dropped =
        quiet-gathered P v s at whole (goals_of st list) st.env.count below cases-are last (stays ∙ g.basis ∙ basis)
        (did.cases (db_in P v s.machine) _ below (g.cases (db_in P v s.machine) ∙ here.cases (db_in P v s.machine))) kept (dropped ∙ ap (λ d. kept_below d s.machine.kept) at-level)
        g.unifier (subst (λ d. unify whole (listed (renumbered st.env.count (copies_from d s.machine.kept))) ≡ Some g.unifier) at-level g.is)
        (did.place ∙ ap₂ (λ gs n. record { goals = gs; variables = n }) (g.lists list here.list_there).1 (g.count ∙ ap (λ d. st.env.count + count_new (copies_from d s.machine.kept)) at-level))
