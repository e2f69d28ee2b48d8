-- The turns that take no step.
use Rattle.std.proofs.Common.{◌≡◌, ℕ, zero, suc, Bool, true, false, List, [], ◌∷◌, refl, sym, ap, ◌∙◌, arith, IsTrue, ◌↔◌, Option, Some, None, ◌+◌, ◌<◌, ◌≤◌, subst, inl, inr, if◌then◌else◌}
use Rattle.plterm.specs.Tree.{Tree}
use Rattle.plcells.specs.declared.cell.Cell.{Cell}
use Rattle.plcells.specs.Store.{value}
use Rattle.plevent.specs.Search.{Answer}
use Rattle.plevent.specs.declared.update.ClauseName.{ClauseName}
use Rattle.plstore.specs.Looking.{Views}
use Rattle.pltx.specs.Own.{State as Own}
use Rattle.plprogram.specs.Program.{Program}
use Rattle.plsearch.specs.Types.{Result, Spent, Throw, Commit, Until, Collect, Element, Goal, Marker, Handle, Handler, Catch, Gather, Undo, Keep, Resolvent, Case, Choice, Local, Move, Supply}
use Rattle.plsearch.specs.Collecting.{with_copy}
use Rattle.plsearch.specs.Rows.{select, meet}
use Rattle.plsearch.specs.Handlers.{resume, has, met_by}
use Rattle.plsearch.specs.Engine.{deeper}
use Rattle.plsearch.specs.Engine.{left as left_of}
use Rattle.plsearch.specs.Machines.Machine.{At, Back, Machine, Rest, return, turn, step}
use Rattle.plsearch.specs.Machines.Weight.{cases_weight, weight, Lighter}
use Rattle.plsearch.proofs.Turns.{Rest-turn}
use Rattle.plsearch.proofs.Weight.{lighter-turn}
use Rattle.plsubst.specs.Unify.{unify}
use Rattle.plterm.specs.Variables.{copied}
use Rattle.plcode.specs.Callees.{IsProgramCode}
use Rattle.pllinks.specs.declared.item.MarkerKind.TheVariants as markers
use Rattle.pllinks.specs.declared.link.Continuation.{Continuation}
use Rattle.plstack.specs.Basis.{Basis}
use Rattle.plstack.specs.Levels.{AreNamed}
use Rattle.plstack.specs.Opening.{ClosesPlain}
use Rattle.plstack.specs.Places.{Database, place_asked, plain}
use Rattle.plstack.specs.State.{State, walks_in, place_of, cases_of, goals_of, Retries, RetriesBy}
use Rattle.plstack.specs.StaticCalls.{database_of}
use Rattle.plstack.specs.Cutting.{Cuts}
use Rattle.plstack.specs.First.{AtMarker}
use Rattle.plmachine.specs.declared.machine.Outcome.{Outcome}
use Rattle.plmachine.specs.declared.machine.Outcome.TheVariants as outcomes
use Rattle.plmachine.specs.declared.machine.Mode.{Mode as Going}
use Rattle.plmachine.specs.declared.machine.Mode.TheVariants as modes
use Rattle.plmachine.specs.declared.machine.Machine.{Machine as Reached}
use Rattle.plmachine.specs.Machine.{result_of, mode_of, below_in, local_of, cases_in, machine, run_in, IsCarried, IsLast, IsMachine, IsPlain, IsTied, MayAsk, MayCarry}
use Rattle.plmachine.specs.Clauses.{mode_by}
use Rattle.plmachine.proofs.Moves.{machine-is, plain-machine, tied-as}
use Rattle.plmachine.proofs.Clausal.{at-by, may-by, plain-by}
use Rattle.plmachine.proofs.Cutting.{cut-place, cut-rest}
use Rattle.plsolver.specs.declared.progress.Selected.{Selected}
use Rattle.plsolver.specs.declared.progress.Progress.{Progress}
use Rattle.plsolver.specs.Solver.{QuietIn, Stays, IsOf, IsOver, IsBack, IsSelected, Collects, result_throws, throws_to}
use Rattle.plsolver.proofs.Runs.{at-place, visit-place, selected-goal}
use Rattle.plsolver.proofs.Cutting.{cut-weight}

-- the search with another stack, and another thing next
abbrev pub to : Progress → State → Going → Progress
to s st m = record s { machine = record s.machine { stack = st; mode = m } }

-- the search with another stack, which carries what it carried
abbrev pub at_stack : Progress → State → Progress
at_stack s st = record s { machine = record s.machine { stack = st } }

-- the clauses and views that the cases of a machine are read by
abbrev pub db_in : Program → Views → Reached → Database
db_in P v s = database_of P v s.layer.own.updates

pub carried : (P : Program) (v : Views) (s : Reached) (r : Outcome) (cs : List Case) → s.mode ≡ modes.Back r → cases_in P v s ≡ cs → (left : ℕ) (answers : List Answer) →
    machine P v left answers s ≡ record { mode = Back (result_of r); cases = cs; run = run_in v left answers s }
carried P v s r cs at cases left answers = machine-is P v s (Back (result_of r)) cs (below_in v s) (local_of s) (subst IsPlain (sym at) tt) (ap (λ m. mode_of m s.stack) at) cases refl refl left answers

pub not_back : (s : Reached) (r : Result) → s.mode ≡ modes.Visit → mode_of s.mode s.stack ≡ Back r → ⊥
not_back s r at is = let e : At (place_of s.stack) ≡ Back r = ap (λ m. mode_of m s.stack) (sym at) ∙ is in cc

pub some_case : (c : Case) (cs all : List Case) → all ≡ c ∷ cs → all ≡ [] → ⊥
some_case c cs all is none = let e : c ∷ cs ≡ [] = sym is ∙ none in cc

-- ---- what stays true of the machine

-- it is sound where its own updates are tied to its cases as before, unless it carries a last result
pub sound-of : (P : Program) (s t : Reached) → t.stack.basis.code ≡ s.stack.basis.code → (IsTied s → IsTied t) → (IsLast s.mode → IsLast t.mode) → (IsMachine s → MayAsk t.layer.own t.stack t.mode) → (IsMachine s → MayCarry t.stack t.mode) →
    IsOf P s → IsOf P t
sound-of P s t code tied last asks carries of = record {
  begun = subst (IsProgramCode P) (sym code) of.begun;
  sound = record { tied = λ more. tied (of.sound.tied (λ is. more (last is))); askable = asks of.sound; carry = carries of.sound };
}

-- where neither the basis of the cases nor the own updates change
pub same-of : (P : Program) (s t : Reached) → t.stack.basis ≡ s.stack.basis → t.layer ≡ s.layer → (IsLast s.mode → IsLast t.mode) → MayAsk t.layer.own t.stack t.mode → (IsMachine s → MayCarry t.stack t.mode) → IsOf P s → IsOf P t
same-of P s t basis layer last asks = sound-of P s t (ap (λ (b : Basis). b.code) basis) (tied-as s t basis layer) last (λ is. asks)

pub from-visit : (s : Reached) (m : Going) → s.mode ≡ modes.Visit → IsLast s.mode → IsLast m
from-visit s m at last = absurd (subst IsLast at last)

pub from-fail : (s : Reached) (m : Going) → s.mode ≡ modes.Back outcomes.Fail → IsLast s.mode → IsLast m
from-fail s m at last = absurd (subst IsLast at last)

pub back-may : (own : Own) (st : State) (m : Going) (r : Outcome) → m ≡ modes.Back r → MayAsk own st m
back-may own st m r at = subst (MayAsk own st) (sym at) tt

-- a ball is for each Undo among fewer cases
pub carried-behind : (s t : State) (m : Going) (r : Outcome) → m ≡ modes.Back r → ((ls : List ℕ) (db : Database) → AreNamed ls (cases_of db s) → AreNamed ls (cases_of db t)) → MayCarry s m → MayCarry t m
carried-behind s t m r at less may = subst (MayCarry t) (sym at) (go r (subst (MayCarry s) at may))
  where
    go : (r : Outcome) → IsCarried s r → IsCarried t r
    go outcomes.Stop may = tt
    go outcomes.Fail may = tt
    go (outcomes.Throw b ls) may = λ db. less ls.items db (may db)
    go (outcomes.Halted n) may = tt
    go outcomes.Spent may = tt

-- ---- one turn

-- the machine makes one turn, and had not ended
pub quiet-at : (P : Program) (v : Views) (s : Progress) → IsPlain s.machine.mode → (t : Reached) → (IsOf P s.machine → IsOf P t) → t.stack.basis.latest.place ≡ s.machine.stack.basis.latest.place → IsPlain t.mode →
    ((left : ℕ) (answers : List Answer) → left + s.used ≤ s.limit → machine P v left answers t ≡ turn P (machine P v left answers s.machine)) →
    ((r : Result) → mode_of s.machine.mode s.machine.stack ≡ Back r → cases_in P v s.machine ≡ [] → ⊥) → QuietIn P v s (record s { machine = t })
unfolding machine
quiet-at P v s plain t of latest plain-then turned goes = record {
  used = refl;
  limit = refl;
  places = refl;
  of = of;
  latest = latest;
  plain = plain-then;
  rest = λ left answers few. ap (Rest P) (turned left answers few) ∙ sym (Rest-turn P (machine P v left answers s.machine));
  lighter = λ within. fin (subst (λ m. Lighter (machine P v 0 [] s.machine) m) (sym (turned 0 [] (omega (arith, within)))) (lighter-turn P (machine P v 0 [] s.machine) (λ r is none. goes r (sym (ap (λ m. m.mode) here) ∙ is) (sym (ap (λ m. m.cases) here) ∙ none))));
}
  where
    here : machine P v 0 [] s.machine ≡ record { mode = mode_of s.machine.mode s.machine.stack; cases = cases_in P v s.machine; run = run_in v 0 [] s.machine }
    here = plain-machine P v s.machine 0 [] s.machine.mode plain

    there : machine P v 0 [] t ≡ record { mode = mode_of t.mode t.stack; cases = cases_in P v t; run = run_in v 0 [] t }
    there = plain-machine P v t 0 [] t.mode plain-then

    fin : Lighter (machine P v 0 [] s.machine) (machine P v 0 [] t) → weight (machine P v 0 [] t) < weight (machine P v 0 [] s.machine)
    fin (inl less) = absurd (omega (arith, less, ap (λ m. left_of m.run) here, ap (λ m. left_of m.run) there))
    fin (inr both) = both.1

-- with another stack and another thing next
pub quiet : (P : Program) (v : Views) (s : Progress) → IsPlain s.machine.mode → (st : State) (m : Going) → st.basis ≡ s.machine.stack.basis → (IsLast s.machine.mode → IsLast m) → MayAsk s.machine.layer.own st m → (IsMachine s.machine → MayCarry st m) → IsPlain m →
    ((left : ℕ) (answers : List Answer) → left + s.used ≤ s.limit → machine P v left answers (record s.machine { stack = st; mode = m }) ≡ turn P (machine P v left answers s.machine)) →
    ((r : Result) → mode_of s.machine.mode s.machine.stack ≡ Back r → cases_in P v s.machine ≡ [] → ⊥) → QuietIn P v s (to s st m)
quiet P v s plain st m basis last asks carries plain-then =
    quiet-at P v s plain (record s.machine { stack = st; mode = m }) (same-of P s.machine (record s.machine { stack = st; mode = m }) basis refl last asks carries) (ap (λ (b : Basis). b.latest.place) basis) plain-then

pub quiet-as : (P : Program) (v : Views) (s new : Progress) (st : State) (m : Going) → new ≡ to s st m → QuietIn P v s (to s st m) → QuietIn P v s new
quiet-as P v s new st m is q = subst (QuietIn P v s) (sym is) q

-- ---- at a list

pub at-goals : (P : Program) (v : Views) (s : Reached) (es : List Element) → s.mode ≡ modes.Visit → goals_of s.stack s.stack.goals ≡ es → (left : ℕ) (answers : List Answer) →
    machine P v left answers s ≡ record { mode = At (record { goals = es; variables = s.stack.env.count }); cases = cases_in P v s; run = run_in v left answers s }
at-goals P v s es at goals left answers = at-place P v s (record { goals = es; variables = s.stack.env.count }) (subst IsPlain (sym at) tt) (visit-place s es at goals) left answers

pub quiet-stop : (P : Program) (v : Views) (s : Progress) → s.machine.mode ≡ modes.Visit → goals_of s.machine.stack s.machine.stack.goals ≡ [] → QuietIn P v s (to s s.machine.stack (modes.Back outcomes.Stop))
unfolding turn machine
quiet-stop P v s at none =
    quiet P v s (subst IsPlain (sym at) tt) s.machine.stack (modes.Back outcomes.Stop) refl (λ last. tt) tt (λ is. tt) tt
    (λ left answers few. sym (ap (turn P) (at-goals P v s.machine [] at none left answers)))
    (λ r is no. not_back s.machine r at is)

spent : (P : Program) (cases : List Case) (row : Local → Move) (run : Supply) (n : ℕ) → n ≡ 0 → ◌≡◌ {A = Machine} (record { mode = Back Spent; cases = cases; run = run }) (step cases row run n)
spent P cases row run zero e = refl
spent P cases row run (suc n) e = absurd (omega (arith, e))

spends : (P : Program) (v : Views) (s : Progress) (k : ℕ) (t : Tree) (rest : List Element) → s.machine.mode ≡ modes.Visit → goals_of s.machine.stack s.machine.stack.goals ≡ Goal k t ∷ rest → s.used ≡ s.limit →
    QuietIn P v s (to s s.machine.stack (modes.Back outcomes.Spent))
unfolding turn machine meet
spends P v s k t rest at goals all =
    quiet P v s (subst IsPlain (sym at) tt) s.machine.stack (modes.Back outcomes.Spent) refl (λ last. tt) tt (λ is. tt) tt
    (λ left answers few.
    spent P (cases_in P v s.machine) (select P (below_in v s.machine) k t (deeper (cases_in P v s.machine) 0) rest s.machine.stack.env.count) (run_in v left answers s.machine) left (omega (arith, few, all))
    ∙ sym (ap (turn P) (at-goals P v s.machine (Goal k t ∷ rest) at goals left answers)))
    (λ r is no. not_back s.machine r at is)

pub quiet-spent : (P : Program) (v : Views) (s : Progress) (x : Selected) → IsSelected s.machine x → s.used ≡ s.limit → QuietIn P v s (to s s.machine.stack (modes.Back outcomes.Spent))
quiet-spent P v s x is all = let g = selected-goal s.machine x is in spends P v s g.0 g.1 g.2 is.0 g.3 all

pub quiet-commit : (P : Program) (v : Views) (s : Progress) (st : State) (level : ℕ) (rest : Continuation) → s.machine.mode ≡ modes.Visit → AtMarker s.machine.stack (goals_of s.machine.stack s.machine.stack.goals) markers.Commit level rest →
    Cuts s.machine.stack st level rest → QuietIn P v s (to s st s.machine.mode)
unfolding turn meet weight
quiet-commit P v s st level rest at commit cut = record {
  used = refl;
  limit = refl;
  places = refl;
  of = same-of P s.machine (record s.machine { stack = st }) cut.keeps.basis refl (λ last. last) (subst (MayAsk s.machine.layer.own st) (sym at) tt) (λ is. subst (MayCarry st) (sym at) tt);
  latest = ap (λ (b : Basis). b.latest.place) cut.keeps.basis;
  plain = subst IsPlain (sym at) tt;
  rest = λ left answers few.
      ap (Rest P) (after left answers)
      ∙ cut-rest P s.machine.stack st level rest commit.there cut (db_in P v s.machine) (run_in v left answers s.machine)
      ∙ sym (Rest-turn P (record { mode = At (record { goals = Marker Commit level ∷ goals_of s.machine.stack rest; variables = s.machine.stack.env.count }); cases = cases_in P v s.machine; run = run_in v left answers s.machine }))
      ∙ sym (ap (Rest P) (here left answers));
  lighter = λ within. rw (after 0 [], here 0 []) (omega (arith, cut-weight (db_in P v s.machine) s.machine.stack st level (cut.cases (db_in P v s.machine))));
}
  where
    here : (left : ℕ) (answers : List Answer) → machine P v left answers s.machine ≡ record { mode = At (record { goals = Marker Commit level ∷ goals_of s.machine.stack rest; variables = s.machine.stack.env.count }); cases = cases_in P v s.machine; run = run_in v left answers s.machine }
    here left answers = at-goals P v s.machine (Marker Commit level ∷ goals_of s.machine.stack rest) at commit.goals left answers

    after : (left : ℕ) (answers : List Answer) → machine P v left answers (record s.machine { stack = st }) ≡ record { mode = At (record { goals = goals_of s.machine.stack rest; variables = s.machine.stack.env.count }); cases = cases_of (db_in P v s.machine) st; run = run_in v left answers s.machine }
    after left answers = at-place P v (record s.machine { stack = st }) (record { goals = goals_of s.machine.stack rest; variables = s.machine.stack.env.count }) (subst IsPlain (sym at) tt) (ap (λ m. mode_of m st) at ∙ ap At (cut-place P s.machine.stack st level rest commit.there cut)) left answers

pub quiet-until : (P : Program) (v : Views) (s : Progress) (level : ℕ) (rest : Continuation) → s.machine.mode ≡ modes.Visit → AtMarker s.machine.stack (goals_of s.machine.stack s.machine.stack.goals) markers.Until level rest →
    QuietIn P v s (to s (record s.machine.stack { goals = rest }) s.machine.mode)
unfolding turn meet cases_of
quiet-until P v s level rest at until =
    quiet P v s (subst IsPlain (sym at) tt) (record s.machine.stack { goals = rest }) s.machine.mode refl (λ last. last) (subst (MayAsk s.machine.layer.own (record s.machine.stack { goals = rest })) (sym at) tt) (λ is. subst (MayCarry (record s.machine.stack { goals = rest })) (sym at) tt)
    (subst IsPlain (sym at) tt)
    (λ left answers few.
    at-goals P v (record s.machine { stack = record s.machine.stack { goals = rest } }) (goals_of s.machine.stack rest) at refl left answers
    ∙ sym (ap (turn P) (at-goals P v s.machine (Marker Until level ∷ goals_of s.machine.stack rest) at until.goals left answers)))
    (λ r is no. not_back s.machine r at is)

pub quiet-collect : (P : Program) (v : Views) (s new : Progress) (c : Cell) (level : ℕ) (rest : Continuation) → s.machine.mode ≡ modes.Visit → AtMarker s.machine.stack (goals_of s.machine.stack s.machine.stack.goals) (markers.Collect c) level rest →
    Collects s new level (value s.machine.stack.env.heap c) → QuietIn P v s new
unfolding turn meet machine
quiet-collect P v s new c level rest at collect did =
    let t : Reached = record s.machine { kept = with_copy level (value s.machine.stack.env.heap c) s.machine.kept; mode = modes.Back outcomes.Fail } in
    subst (QuietIn P v s) (sym did)
    (quiet-at P v s (subst IsPlain (sym at) tt) t (same-of P s.machine t refl refl (from-visit s.machine t.mode at) tt (λ is. tt)) refl tt
    (λ left answers few. sym (ap (turn P) (at-goals P v s.machine (Marker (Collect (value s.machine.stack.env.heap c)) level ∷ goals_of s.machine.stack rest) at collect.goals left answers)))
    (λ r is no. not_back s.machine r at is))

-- ---- with a result

pub quiet-retry : (P : Program) (v : Views) (s : Progress) (st : State) → s.machine.mode ≡ modes.Back outcomes.Fail → st.basis ≡ s.machine.stack.basis → Retries (db_in P v s.machine) s.machine.stack st → QuietIn P v s (to s st modes.Visit)
unfolding turn
quiet-retry P v s st at basis r =
    quiet P v s (subst IsPlain (sym at) tt) st modes.Visit basis (from-fail s.machine modes.Visit at) tt (λ is. tt) tt
    (λ left answers few.
    at-place P v (record s.machine { stack = st; mode = modes.Visit }) (place_of st) tt refl left answers
    ∙ ap (λ cs. record { mode = At (place_of st); cases = cs; run = run_in v left answers s.machine }) r.cases
    ∙ sym (ap (turn P) (carried P v s.machine outcomes.Fail (Choice (place_of st ∷ r.others) ∷ r.older) at r.was left answers)))
    (λ x is no. some_case _ _ _ r.was no)

-- the same, where a clause may be erased before the list
pub quiet-retry-by : (P : Program) (v : Views) (s : Progress) (st : State) (x : Option ClauseName) → s.machine.mode ≡ modes.Back outcomes.Fail → st.basis ≡ s.machine.stack.basis → RetriesBy (db_in P v s.machine) s.machine.stack st x → QuietIn P v s (to s st (mode_by x))
unfolding turn
quiet-retry-by P v s st x at basis r =
    quiet P v s (subst IsPlain (sym at) tt) st (mode_by x) basis (from-fail s.machine (mode_by x) at) (may-by s.machine.layer.own st x) (λ is. carry-by x) (plain-by x)
    (λ left answers few.
    at-place P v (record s.machine { stack = st; mode = mode_by x }) (place_asked x (place_of st)) (plain-by x) (at-by st x) left answers
    ∙ ap (λ cs. record { mode = At (place_asked x (place_of st)); cases = cs; run = run_in v left answers s.machine }) r.cases
    ∙ sym (ap (turn P) (carried P v s.machine outcomes.Fail (Choice (place_asked x (place_of st) ∷ r.others) ∷ r.older) at r.was left answers)))
    (λ y is no. some_case _ _ _ r.was no)
  where
    carry-by : (x : Option ClauseName) → MayCarry st (mode_by x)
    carry-by None = tt
    carry-by (Some x) = tt

-- with failure the innermost choice, which has nothing left, is closed
pub quiet-close : (P : Program) (v : Views) (s : Progress) (st : State) → s.machine.mode ≡ modes.Back outcomes.Fail → st.basis ≡ s.machine.stack.basis → cases_in P v s.machine ≡ Choice [] ∷ cases_of (db_in P v s.machine) st → QuietIn P v s (to s st s.machine.mode)
unfolding turn
quiet-close P v s st at basis was =
    quiet P v s (subst IsPlain (sym at) tt) st s.machine.mode basis (λ last. last) (back-may s.machine.layer.own st s.machine.mode _ at) (λ is. subst (MayCarry st) (sym at) tt) (subst IsPlain (sym at) tt)
    (λ left answers few.
    carried P v (record s.machine { stack = st }) outcomes.Fail (cases_of (db_in P v s.machine) st) at refl left answers
    ∙ sym (ap (turn P) (carried P v s.machine outcomes.Fail (Choice [] ∷ cases_of (db_in P v s.machine) st) at was left answers)))
    (λ x is no. some_case _ _ _ was no)

-- a result goes through a choice with nothing left as it is, and so through several
through-one : (P : Program) (r : Outcome) (cases : List Case) (run : Supply) →
    ◌≡◌ {A = Machine} (turn P (record { mode = Back (result_of r); cases = Choice [] ∷ cases; run = run })) (record { mode = Back (result_of r); cases = cases; run = run })
unfolding turn
through-one P outcomes.Stop cases run = refl
through-one P outcomes.Fail cases run = refl
through-one P (outcomes.Throw t ls) cases run = refl
through-one P (outcomes.Halted n) cases run = refl
through-one P outcomes.Spent cases run = refl

pub goes-through : (P : Program) (r : Outcome) (n : ℕ) (below : List Case) (run : Supply) → Rest P (record { mode = Back (result_of r); cases = plain n below; run = run }) ≡ Rest P (record { mode = Back (result_of r); cases = below; run = run })
goes-through P r zero below run = refl
goes-through P r (suc n) below run =
    Rest-turn P (record { mode = Back (result_of r); cases = plain (suc n) below; run = run })
    ∙ ap (Rest P) (through-one P r (plain n below) run)
    ∙ goes-through P r n below run

pub plain-weight : (n : ℕ) (below : List Case) → cases_weight (plain n below) ≡ n + cases_weight below
plain-weight zero below = omega arith
plain-weight (suc n) below = let e = plain-weight n below in omega (arith, e)

plain-named : (ls : List ℕ) (n : ℕ) (below : List Case) → AreNamed ls (plain n below) → AreNamed ls below
plain-named ls zero below named = named
plain-named ls (suc n) below named = plain-named ls n below named

pub quiet-plain : (P : Program) (v : Views) (s : Progress) (st : State) → IsBack s → st.basis ≡ s.machine.stack.basis → ClosesPlain s.machine.stack st → QuietIn P v s (to s st s.machine.mode)
unfolding weight
quiet-plain P v s st back basis closes = record {
  used = refl;
  limit = refl;
  places = refl;
  of = same-of P s.machine (record s.machine { stack = st }) basis refl (λ last. last) (back-may s.machine.layer.own st s.machine.mode back.0 back.1)
      (λ is. carried-behind s.machine.stack st s.machine.mode back.0 back.1 (λ ls db named. plain-named ls closes.count (cases_of db st) (subst (AreNamed ls) (closes.was db) named)) is.carry);
  latest = ap (λ (b : Basis). b.latest.place) basis;
  plain = subst IsPlain (sym back.1) tt;
  rest = λ left answers few.
      ap (Rest P) (after left answers)
      ∙ sym (goes-through P back.0 closes.count (cases_of (db_in P v s.machine) st) (run_in v left answers s.machine))
      ∙ sym (ap (Rest P) (before left answers));
  lighter = λ within. rw (after 0 [], before 0 []) (omega (arith, closes.some, plain-weight closes.count (cases_of (db_in P v s.machine) st)));
}
  where
    before : (left : ℕ) (answers : List Answer) → machine P v left answers s.machine ≡ record { mode = Back (result_of back.0); cases = plain closes.count (cases_of (db_in P v s.machine) st); run = run_in v left answers s.machine }
    before left answers = carried P v s.machine back.0 (plain closes.count (cases_of (db_in P v s.machine) st)) back.1 (closes.was (db_in P v s.machine)) left answers

    after : (left : ℕ) (answers : List Answer) → machine P v left answers (record s.machine { stack = st }) ≡ record { mode = Back (result_of back.0); cases = cases_of (db_in P v s.machine) st; run = run_in v left answers s.machine }
    after left answers = carried P v (record s.machine { stack = st }) back.0 (cases_of (db_in P v s.machine) st) back.1 refl left answers

-- a choice that has no place left for the result is closed
choice-result : (P : Program) (r : Outcome) (ps : List Resolvent) (cases : List Case) (run : Supply) → (r ≡ outcomes.Fail → ps ≡ []) →
    ◌≡◌ {A = Machine} (record { mode = Back (result_of r); cases = cases; run = run }) (turn P (record { mode = Back (result_of r); cases = Choice ps ∷ cases; run = run }))
unfolding turn
choice-result P outcomes.Fail ps cases run none = rw (none refl) refl
choice-result P outcomes.Stop [] cases run none = refl
choice-result P outcomes.Stop (p ∷ ps) cases run none = refl
choice-result P (outcomes.Throw t ls) [] cases run none = refl
choice-result P (outcomes.Throw t ls) (p ∷ ps) cases run none = refl
choice-result P (outcomes.Halted n) [] cases run none = refl
choice-result P (outcomes.Halted n) (p ∷ ps) cases run none = refl
choice-result P outcomes.Spent [] cases run none = refl
choice-result P outcomes.Spent (p ∷ ps) cases run none = refl

-- the innermost case was closed, a choice or a handler; of any database
module _ (P : Program) (v : Views) (s : Progress) (st : State) (back : IsBack s) (basis : st.basis ≡ s.machine.stack.basis) where
  closed-of : ((ls : List ℕ) (db : Database) → AreNamed ls (cases_of db s.machine.stack) → AreNamed ls (cases_of db st)) → IsMachine s.machine → MayCarry st s.machine.mode
  closed-of less is = carried-behind s.machine.stack st s.machine.mode back.0 back.1 less is.carry

  -- one turn, where another stack carries what was carried
  pub quiet-closed : (c : Case) → cases_in P v s.machine ≡ c ∷ cases_of (db_in P v s.machine) st → ((ls : List ℕ) (db : Database) → AreNamed ls (cases_of db s.machine.stack) → AreNamed ls (cases_of db st)) →
      ((run : Supply) → ◌≡◌ {A = Machine} (record { mode = Back (result_of back.0); cases = cases_of (db_in P v s.machine) st; run = run }) (turn P (record { mode = Back (result_of back.0); cases = c ∷ cases_of (db_in P v s.machine) st; run = run }))) →
      QuietIn P v s (at_stack s st)
  quiet-closed c was less turned =
      quiet P v s (subst IsPlain (sym back.1) tt) st s.machine.mode basis (λ last. last) (back-may s.machine.layer.own st s.machine.mode back.0 back.1) (closed-of less) (subst IsPlain (sym back.1) tt)
      (λ left answers few.
      carried P v (record s.machine { stack = st }) back.0 (cases_of (db_in P v s.machine) st) back.1 refl left answers
      ∙ turned (run_in v left answers s.machine)
      ∙ sym (ap (turn P) (carried P v s.machine back.0 (c ∷ cases_of (db_in P v s.machine) st) back.1 was left answers)))
      (λ x is no. some_case _ _ _ was no)

  pub quiet-choice : (ps : (db : Database) → List Resolvent) → ((db : Database) → cases_of db s.machine.stack ≡ Choice (ps db) ∷ cases_of db st) → (s.machine.mode ≡ modes.Back outcomes.Fail → ps (db_in P v s.machine) ≡ []) → QuietIn P v s (at_stack s st)
  quiet-choice ps was none =
      quiet-closed (Choice (ps (db_in P v s.machine))) (was (db_in P v s.machine)) (λ ls db named. subst (AreNamed ls) (was db) named)
      (λ run. choice-result P back.0 (ps (db_in P v s.machine)) (cases_of (db_in P v s.machine) st) run (λ f. none (back.1 ∙ ap modes.Back f)))

pub over-now : (P : Program) (s : Progress) → IsBack s → ((v : Views) → cases_in P v s.machine ≡ []) → IsOver P s
over-now P s back none = (back.0, back.1, none)

-- with a result the list that is visited does not matter
pub stays-back : (P : Program) (s : Progress) (st : State) (r : Outcome) → s.machine.mode ≡ modes.Back r → st.basis ≡ s.machine.stack.basis → walks_in st ≡ walks_in s.machine.stack → ((db : Database) → cases_of db st ≡ cases_of db s.machine.stack) → Stays P s (at_stack s st)
stays-back P s st r at basis walks same = record {
  used = refl;
  limit = refl;
  places = refl;
  there = record {
    basis = basis;
    layer = refl;
    mode = λ plain. refl;
    walks = walks;
    cases = λ v. same (db_in P v s.machine);
    local = refl;
    askable = λ may. back-may s.machine.layer.own st s.machine.mode r at;
    carry = carried-behind s.machine.stack st s.machine.mode r at (λ ls db named. subst (AreNamed ls) (sym (same db)) named);
    same = λ may v left answers. carried P v (record s.machine { stack = st }) r (cases_in P v s.machine) at (same (db_in P v s.machine)) left answers ∙ sym (carried P v s.machine r (cases_in P v s.machine) at refl left answers);
  };
}

pub none_are : {A : Type 0} (b : Bool) → (IsTrue b ↔ A) → b ≡ false → A → ⊥
none_are b iff is a = grind (arith, is, iff.1 a)

pub are : {A : Type 0} (b : Bool) → (IsTrue b ↔ A) → b ≡ true → A
are b iff is = grind (arith, is, iff.0)

pub both_are : {A B : Type 0} (b : Bool) → (IsTrue b ↔ (A × B)) → b ≡ true → A × B
both_are b iff is = grind (arith, is, iff.0)

-- ---- at a handler that passes the result on

-- a catcher whose goal no ball comes from passes every result on, and so does a handler of what was kept but for failure
keeps : (h : Handler) (p : Resolvent) (d : ℕ) (r : Outcome) (w : Local) → ((c x : Tree) → h ≡ Catch c x → result_throws d r ≡ true → ⊥) → ((l : Tree) → h ≡ Gather l → r ≡ outcomes.Fail → ⊥) → (h ≡ Undo → ⊥) →
    resume h p d (result_of r) w ≡ Keep (result_of r) w
unfolding resume
keeps (Catch c r) p d outcomes.Fail w not fails none = refl
keeps (Catch c r) p d outcomes.Stop w not fails none = refl
keeps (Catch c r) p d (outcomes.Throw t ls) w not fails none = go (has d ls.items) refl
  where
    go : (b : Bool) → has d ls.items ≡ b → (if has d ls.items then met_by (unify c (copied p.variables t)) r t ls.items p d w else Keep (Throw t ls.items) w) ≡ Keep (Throw t ls.items) w
    go true e = absurd (not c r refl e)
    go false e = rw e refl
keeps (Catch c r) p d (outcomes.Halted n) w not fails none = refl
keeps (Catch c r) p d outcomes.Spent w not fails none = refl
keeps (Gather l) p d outcomes.Fail w not fails none = absurd (fails l refl refl)
keeps (Gather l) p d outcomes.Stop w not fails none = refl
keeps (Gather l) p d (outcomes.Throw t ls) w not fails none = refl
keeps (Gather l) p d (outcomes.Halted n) w not fails none = refl
keeps (Gather l) p d outcomes.Spent w not fails none = refl
keeps Undo p d r w not fails none = absurd (none refl)

pub quiet-handler : (P : Program) (v : Views) (s : Progress) (st : State) (h : (db : Database) → Handler) (p : (db : Database) → Resolvent) → IsBack s → st.basis ≡ s.machine.stack.basis → ((db : Database) → cases_of db s.machine.stack ≡ Handle (h db) (p db) ∷ cases_of db st) →
    ((c x : Tree) → h (db_in P v s.machine) ≡ Catch c x → throws_to (deeper (cases_of (db_in P v s.machine) st) 0) s.machine.mode ≡ true → ⊥) → ((l : Tree) → h (db_in P v s.machine) ≡ Gather l → s.machine.mode ≡ modes.Back outcomes.Fail → ⊥) →
    (h (db_in P v s.machine) ≡ Undo → ⊥) → QuietIn P v s (at_stack s st)
unfolding turn
quiet-handler P v s st h p back basis was not fails none =
    let db : Database = db_in P v s.machine in
    let r : Outcome = back.0 in
    let d : ℕ = deeper (cases_of db st) 0 in
    quiet-closed P v s st back basis (Handle (h db) (p db)) (was db) (λ ls db named. (subst (AreNamed ls) (was db) named).1)
    (λ run. sym (ap (return (cases_of db st) run) (keeps (h db) (p db) d r run.local (λ c x is yes. not c x is (ap (throws_to d) back.1 ∙ yes)) (λ l is same. fails l is (back.1 ∙ ap modes.Back same)) none)))
