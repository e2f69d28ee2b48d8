-- A cut that empties what it gives up leaves the search as a mark does.
use Rattle.std.proofs.Common.{◌≡◌, ℕ, [], ◌∷◌, ◌++◌, sym, ap, ap₂, ◌∙◌, subst}
use Rattle.plprogram.specs.Program.{Program}
use Rattle.plsearch.specs.Types.{Go, Resolvent, Mark, Supply}
use Rattle.plsearch.specs.Machines.Machine.{At, Rest}
use Rattle.plsearch.specs.Search.{ending_of}
use Rattle.plsearch.proofs.Cuts.{cuts-empty}
use Rattle.pllinks.specs.declared.link.Continuation.{Continuation}
use Rattle.plviews.specs.Layers.{Layered}
use Rattle.plstack.specs.Basis.{Basis}
use Rattle.plstack.specs.Places.{Database}
use Rattle.plstack.specs.State.{State, walks_in, place_of, cases_of, goals_of, IsList}
use Rattle.plstack.specs.StaticCalls.{database_of}
use Rattle.plstack.specs.Cutting.{Cuts}
use Rattle.plmachine.specs.declared.machine.Mode.TheVariants as modes
use Rattle.plmachine.specs.declared.machine.Machine.{Machine as Reached}
use Rattle.plmachine.specs.Machine.{IsPlain, below_in, local_of, mode_of, cases_in, run_in, MayCarry, Moved}
use Rattle.plmachine.proofs.Moves.{below-as, machine-is, seeks-none, tied-as, visit-asks}

module _ (P : Program) (old new : State) (level : ℕ) (list : Continuation) (there : IsList old list) (cut : Cuts old new level list) where
  abbrev place : Resolvent
  place = record { goals = goals_of old list; variables = old.env.count }

  pub cut-place : place_of new ≡ record { goals = goals_of old list; variables = old.env.count }
  cut-place = ap₂ (λ gs n. record { goals = gs; variables = n }) (ap (goals_of new) cut.goals ∙ (cut.keeps.lists list there).1) cut.keeps.count

  pub cut-rest : (db : Database) (run : Supply) →
      Rest P (record { mode = At place; cases = cases_of db new; run = run }) ≡ Rest P (record { mode = At place; cases = Mark level ∷ cases_of db old; run = run })
  cut-rest db run =
      let e = cut.cases db in
      ap (λ cs. Rest P (record { mode = At place; cases = cs; run = run })) e.cases
      ∙ sym (cuts-empty P level e.inside e.below e.places place run e.at cut.most)
      ∙ ap (λ cs. Rest P (record { mode = At place; cases = Mark level ∷ cs; run = run })) (sym e.was)

-- a list is visited behind a cut
pub cuts : (P : Program) (s new : Reached) (st : State) (level : ℕ) (list : Continuation) → IsList s.stack list → Cuts s.stack st level list → new ≡ record s { stack = st; mode = modes.Visit } →
    Moved P s new (Go (Mark level ∷ []) (record { goals = goals_of s.stack list; variables = s.stack.env.count }) (local_of s))
cuts P s new st level list there cut is =
    let rests : new.stack.basis ≡ s.stack.basis = ap (λ x. x.stack.basis) is ∙ cut.keeps.basis in
    let layer : new.layer ≡ s.layer = ap (λ x. x.layer) is in
    record {
      plain = subst (λ x. IsPlain x.mode) (sym is) tt;
      moved = record {
        code = ap (λ (b : Basis). b.code) rests;
        latest = ap (λ (b : Basis). b.latest.place) rests;
        place = ap (λ (x : Layered). x.place) layer;
        walks = (cut.walks.0, cut.walks.1 ∙ ap (λ x. cut.walks.0 ++ walks_in x.stack) (sym is));
        seeks = seeks-none new.mode (subst (λ x. IsPlain x.mode) (sym is) tt);
        tied = tied-as s new rests layer;
        askable = visit-asks new (ap (λ x. x.mode) is);
        carry = subst (MayCarry new.stack) (sym (ap (λ x. x.mode) is)) tt;
        ends = λ v ordered most left answers.
            ap (ending_of most) (sym (cut-rest P s.stack st level list there cut (database_of P v s.layer.own.updates) (run_in v left answers s)))
            ∙ ap (λ m. ending_of most (Rest P m)) (sym (machine-is P v new (At (record { goals = goals_of s.stack list; variables = s.stack.env.count })) (cases_of (database_of P v s.layer.own.updates) st) (below_in v s) (local_of s)
            (subst (λ x. IsPlain x.mode) (sym is) tt)
            (ap (λ x. mode_of x.mode x.stack) is ∙ ap At (cut-place P s.stack st level list there cut))
            (ap (λ x. cases_in P v x) is) (below-as v s new layer) (ap (λ x. local_of x) is) left answers));
      };
    }
