-- The markers at which a catcher is left, and at which choices are given up and the list fails.
use Rattle.std.proofs.Common.{◌≡◌, ℕ, zero, suc, ◌-◌, ◌<◌, List, [], ◌∷◌, ◌++◌, length, refl, sym, ap, ap₂, ◌∙◌, subst, arith, if◌then◌else◌}
use Rattle.std.proofs.lemmas.Bool.{eq-eqb, ne_eqb}
use Rattle.plevent.specs.Search.{Answer}
use Rattle.plstore.specs.Looking.{Views}
use Rattle.plprogram.specs.Program.{Program}
use Rattle.plsearch.specs.Types.{Fail, CutTo, Until, Never, Marker, Handle, Handler, Catch, Gather, Undo, Keep, Resolvent, Case, Choice, Mark, Local, Supply}
use Rattle.plsearch.specs.Rows.{meet}
use Rattle.plsearch.specs.Handlers.{resume}
use Rattle.plsearch.specs.Engine.{deeper, stop_cut}
use Rattle.plsearch.specs.Machines.Levels.{emptied}
use Rattle.plsearch.specs.Machines.Machine.{At, Back, Machine, Rest, return, turn}
use Rattle.plsearch.specs.Machines.Weight.{weight}
use Rattle.plsearch.proofs.Turns.{Rest-turn}
use Rattle.plsearch.proofs.Cuts.{catchers-empty}
use Rattle.pllinks.specs.declared.item.MarkerKind.TheVariants as markers
use Rattle.pllinks.specs.declared.link.Continuation.{Continuation}
use Rattle.plstack.specs.Basis.{Basis}
use Rattle.plstack.specs.Places.{plain}
use Rattle.plstack.specs.Levels.{FitsIn}
use Rattle.plstack.specs.Cutting.{CatcherLeft, Drops, EmptiesTo, LeavesCatcher}
use Rattle.plstack.specs.State.{State, cases_of, goals_of, kinds_in, place_of, IsFit}
use Rattle.plstack.specs.First.{AtMarker}
use Rattle.plstack.proofs.Naming.{fits-top}
use Rattle.plmachine.specs.declared.machine.Outcome.TheVariants as outcomes
use Rattle.plmachine.specs.declared.machine.Mode.TheVariants as modes
use Rattle.plmachine.specs.declared.machine.Machine.{Machine as Reached}
use Rattle.plmachine.specs.Machine.{cases_in, machine, mode_of, run_in, IsPlain, MayAsk, MayCarry}
use Rattle.plsolver.specs.declared.progress.Progress.{Progress}
use Rattle.plsolver.specs.Solver.{QuietIn}
use Rattle.plsolver.proofs.Quiets.{at-goals, carried, db_in, from-visit, goes-through, plain-weight, same-of, to}
use Rattle.plsolver.proofs.Runs.{at-place}
use Rattle.plsolver.proofs.Cutting.{drop-weight}

-- ---- a catcher

-- what is behind the marker fits, as it names levels below that of the catcher
pub until-fits : (s : State) (level : ℕ) (rest : Continuation) → AtMarker s (goals_of s s.goals) markers.Until level rest → IsFit s rest
until-fits s level rest until = (fits-top (kinds_in s) (goals_of s rest) level (length (kinds_in s)) (omega (arith, behind.0.0)) behind.0.2, behind.1)
  where
    behind : FitsIn (kinds_in s) (Marker Until level ∷ goals_of s rest)
    behind = subst (FitsIn (kinds_in s)) until.goals until.levels

-- choices with nothing left, in the place of as many
plain-emptied : (n : ℕ) (cs : List Case) → emptied (plain n []) cs ≡ plain n cs
plain-emptied zero cs = refl
plain-emptied (suc n) cs = ap (λ cs. Choice [] ∷ cs) (plain-emptied n cs)

-- where choices with nothing left stand alone in a catcher, it is one of these
pub quiet-left : (P : Program) (v : Views) (s : Progress) (st : State) (level : ℕ) (rest : Continuation) → s.machine.mode ≡ modes.Visit → AtMarker s.machine.stack (goals_of s.machine.stack s.machine.stack.goals) markers.Until level rest →
    0 < level → LeavesCatcher s.machine.stack st level rest → QuietIn P v s (to s st s.machine.mode)
unfolding turn meet weight
quiet-left P v s st level rest at until inside left = record {
  used = refl;
  limit = refl;
  places = refl;
  of = same-of P s.machine (record s.machine { stack = st }) left.keeps.basis refl (λ last. last) (subst (MayAsk s.machine.layer.own st) (sym at) tt) (λ is. subst (MayCarry st) (sym at) tt);
  latest = ap (λ (b : Basis). b.latest.place) left.keeps.basis;
  plain = subst IsPlain (sym at) tt;
  rest = λ more answers few.
      let run : Supply = run_in v more answers s.machine in
      ap (Rest P) (after more answers)
      ∙ ap (λ cs. Rest P (record { mode = At p; cases = cs; run = run })) (sym (plain-emptied e.inside (Choice [] ∷ e.below)))
      ∙ sym (catchers-empty P (level - 1) e.catcher e.recovery e.place (plain e.inside []) e.below p run (e.at ∙ level-is) (left.most (level - 1) level-is))
      ∙ ap (λ cs. Rest P (record { mode = At p; cases = cs; run = run })) (plain-emptied e.inside (Handle (Catch e.catcher e.recovery) e.place ∷ e.below))
      ∙ sym (Rest-turn P (record { mode = At (record { goals = Marker Until level ∷ goals_of s.machine.stack rest; variables = s.machine.stack.env.count }); cases = plain e.inside (Handle (Catch e.catcher e.recovery) e.place ∷ e.below); run = run }))
      ∙ sym (ap (Rest P) (here more answers));
  lighter = λ within. rw (after 0 [], here 0 []) (omega (arith, plain-weight e.inside (Choice [] ∷ e.below), plain-weight e.inside (Handle (Catch e.catcher e.recovery) e.place ∷ e.below)));
}
  where
    e : CatcherLeft (db_in P v s.machine) s.machine.stack st level
    e = left.cases (db_in P v s.machine)

    p : Resolvent
    p = record { goals = goals_of s.machine.stack rest; variables = s.machine.stack.env.count }

    level-is : level ≡ suc (level - 1)
    level-is = omega (arith, inside)

    place-is : place_of st ≡ p
    place-is = ap₂ (λ gs n. record { goals = gs; variables = n }) (ap (goals_of st) left.goals ∙ (left.keeps.lists rest until.there).1) left.keeps.count

    here : (more : ℕ) (answers : List Answer) → machine P v more answers s.machine ≡ record { mode = At (record { goals = Marker Until level ∷ goals_of s.machine.stack rest; variables = s.machine.stack.env.count }); cases = plain e.inside (Handle (Catch e.catcher e.recovery) e.place ∷ e.below); run = run_in v more answers s.machine }
    here more answers =
        at-goals P v s.machine (Marker Until level ∷ goals_of s.machine.stack rest) at until.goals more answers
        ∙ ap (λ cs. record { mode = At (record { goals = Marker Until level ∷ goals_of s.machine.stack rest; variables = s.machine.stack.env.count }); cases = cs; run = run_in v more answers s.machine }) e.was

    after : (more : ℕ) (answers : List Answer) → machine P v more answers (record s.machine { stack = st }) ≡ record { mode = At p; cases = plain e.inside (Choice [] ∷ e.below); run = run_in v more answers s.machine }
    after more answers =
        at-place P v (record s.machine { stack = st }) p (subst IsPlain (sym at) tt) (ap (λ m. mode_of m st) at ∙ ap At place-is) more answers
        ∙ ap (λ cs. record { mode = At p; cases = cs; run = run_in v more answers s.machine }) e.cases

-- ---- a list that fails, with all choices down to a level

depth-more : (cs : List Case) (c : Case) (below : List Case) → deeper below 0 < deeper (cs ++ c ∷ below) 0
depth-more [] c below = omega arith
depth-more (x ∷ cs) c below = omega (arith, depth-more cs c below)

this-level : (k d : ℕ) → d ≡ k → stop_cut d (CutTo k) ≡ Fail
this-level k d is = ap (λ b. if b then Fail else CutTo k) (eq-eqb k d (sym is))

other-level : (k d : ℕ) → k < d → stop_cut d (CutTo k) ≡ CutTo k
other-level k d less = ap (λ b. if b then Fail else CutTo k) (ne_eqb k d (λ same. absurd (omega (arith, less, same))))

-- no handler has a part in a cut
handles-cut : (h : Handler) (p : Resolvent) (d k : ℕ) (w : Local) → resume h p d (CutTo k) w ≡ Keep (CutTo k) w
unfolding resume
handles-cut (Catch c r) p d k w = refl
handles-cut (Gather l) p d k w = refl
handles-cut Undo p d k w = refl

-- a case inside of the level passes a cut on
passes-cut : (P : Program) (k : ℕ) (c : Case) (cases : List Case) (run : Supply) → k < deeper cases 0 →
    ◌≡◌ {A = Machine} (turn P (record { mode = Back (CutTo k); cases = c ∷ cases; run = run })) (record { mode = Back (CutTo k); cases = cases; run = run })
unfolding turn
passes-cut P k (Choice []) cases run less = ap (λ r. record { mode = Back r; cases = cases; run = run }) (other-level k (deeper cases 0) less)
passes-cut P k (Choice (p ∷ ps)) cases run less = ap (λ r. record { mode = Back r; cases = cases; run = run }) (other-level k (deeper cases 0) less)
passes-cut P k (Mark l) cases run less = refl
passes-cut P k (Handle h p) cases run less = ap (return cases run) (handles-cut h p (deeper cases 0) k run.local)

-- at the level it ends as failure
ends-cut : (P : Program) (k : ℕ) (ps : List Resolvent) (cases : List Case) (run : Supply) → deeper cases 0 ≡ k →
    ◌≡◌ {A = Machine} (turn P (record { mode = Back (CutTo k); cases = Choice ps ∷ cases; run = run })) (record { mode = Back Fail; cases = cases; run = run })
unfolding turn
ends-cut P k [] cases run is = ap (λ r. record { mode = Back r; cases = cases; run = run }) (this-level k (deeper cases 0) is)
ends-cut P k (p ∷ ps) cases run is = ap (λ r. record { mode = Back r; cases = cases; run = run }) (this-level k (deeper cases 0) is)

-- so a cut is failure where all that it gives up is emptied
cut-fails : (P : Program) (k : ℕ) (inside below : List Case) (ps : List Resolvent) (run : Supply) → deeper below 0 ≡ k →
    Rest P (record { mode = Back (CutTo k); cases = inside ++ Choice ps ∷ below; run = run }) ≡ Rest P (record { mode = Back Fail; cases = emptied inside (Choice [] ∷ below); run = run })
cut-fails P k [] below ps run is =
    Rest-turn P (record { mode = Back (CutTo k); cases = Choice ps ∷ below; run = run })
    ∙ ap (Rest P) (ends-cut P k ps below run is)
    ∙ sym (goes-through P outcomes.Fail 1 below run)
cut-fails P k (c ∷ inside) below ps run is =
    Rest-turn P (record { mode = Back (CutTo k); cases = c ∷ (inside ++ Choice ps ∷ below); run = run })
    ∙ ap (Rest P) (passes-cut P k c (inside ++ Choice ps ∷ below) run (omega (arith, is, depth-more inside (Choice ps) below)))
    ∙ cut-fails P k inside below ps run is
    ∙ sym (goes-through P outcomes.Fail 1 (emptied inside (Choice [] ∷ below)) run)

pub quiet-never : (P : Program) (v : Views) (s : Progress) (st : State) (level : ℕ) (rest : Continuation) → s.machine.mode ≡ modes.Visit → AtMarker s.machine.stack (goals_of s.machine.stack s.machine.stack.goals) markers.Never level rest →
    Drops s.machine.stack st level → QuietIn P v s (to s st (modes.Back outcomes.Fail))
unfolding turn meet weight
quiet-never P v s st level rest at never drops = record {
  used = refl;
  limit = refl;
  places = refl;
  of = same-of P s.machine t drops.keeps.basis refl (from-visit s.machine t.mode at) tt (λ is. tt);
  latest = ap (λ (b : Basis). b.latest.place) drops.keeps.basis;
  plain = tt;
  rest = λ left answers few.
      let run : Supply = run_in v left answers s.machine in
      ap (Rest P) (after left answers)
      ∙ ap (λ cs. Rest P (record { mode = Back Fail; cases = cs; run = run })) e.cases
      ∙ sym (cut-fails P level e.inside e.below e.places run e.at)
      ∙ ap (λ cs. Rest P (record { mode = Back (CutTo level); cases = cs; run = run })) (sym e.was)
      ∙ sym (Rest-turn P (record { mode = At (record { goals = Marker Never level ∷ goals_of s.machine.stack rest; variables = s.machine.stack.env.count }); cases = cases_in P v s.machine; run = run }))
      ∙ sym (ap (Rest P) (here left answers));
  lighter = λ within. rw (after 0 [], here 0 []) (omega (arith, drop-weight (db_in P v s.machine) s.machine.stack st level e));
}
  where
    t : Reached
    t = record s.machine { stack = st; mode = modes.Back outcomes.Fail }

    e : EmptiesTo (db_in P v s.machine) s.machine.stack st level
    e = drops.cases (db_in P v s.machine)

    here : (left : ℕ) (answers : List Answer) → machine P v left answers s.machine ≡ record { mode = At (record { goals = Marker Never level ∷ goals_of s.machine.stack rest; variables = s.machine.stack.env.count }); cases = cases_in P v s.machine; run = run_in v left answers s.machine }
    here left answers = at-goals P v s.machine (Marker Never level ∷ goals_of s.machine.stack rest) at never.goals left answers

    after : (left : ℕ) (answers : List Answer) → machine P v left answers t ≡ record { mode = Back Fail; cases = cases_of (db_in P v s.machine) st; run = run_in v left answers s.machine }
    after left answers = carried P v t outcomes.Fail (cases_of (db_in P v s.machine) st) refl refl left answers
