-- The laws of transactions and snapshots.
use Rattle.std.specs.Prelude.{not, min}
use Rattle.std.proofs.Common.{◌≡◌, ℕ, zero, suc, ◌<◌, ◌⊎◌, inl, inr, Bool, true, false, if◌then◌else◌, List, [], ◌∷◌, length, Option, Some, None, refl, sym, ap, ◌∙◌, subst, arith}
use Rattle.plterm.specs.Tree.{Tree}
use Rattle.plevent.specs.Search.{Item, View, Ask, Answer, Seen, Got}
use Rattle.plevent.specs.declared.request.Request.{Request}
use Rattle.plevent.specs.declared.request.Request.TheVariants.{EraseOne}
use Rattle.plevent.specs.declared.update.ClauseName.{ClauseName}
use Rattle.plevent.specs.declared.update.Update.{Update}
use Rattle.plevent.specs.declared.update.Update.TheVariants.{Erase}
use Rattle.pltx.specs.Own.{State, nothing, any_open, ended_at, ended, ending_at, erased_in, made, target_at}
use Rattle.pltx.specs.declared.level.Level.{Level}
use Rattle.pltx.specs.declared.level.Isolation.{Isolation}
use Rattle.pltx.specs.declared.level.Isolation.TheVariants.{Transaction, Snapshot}
use Rattle.plprogram.specs.Program.{Program}
use Rattle.plsearch.specs.Types.{Result, Stop, Fail, CutTo, Throw, Awaits, Commit, Never, Until, Collect, Transact, Then, GoesOn, Ends, Question, Look, Begin, Await, Element, Goal, Marker, Raise, Asking, Resolvent, Case, Choice, Mark, Handle, Undo, Local, Move, Give, Go, Meeting, Select, Asks, End, Pass, Marked, Return, Keep, Again, Anew, Supply}
use Rattle.plsearch.specs.Moves.{publishing}
use Rattle.plsearch.specs.Rows.{select, asked, erasing, published, meet}
use Rattle.plsearch.specs.Replies.{Outcome, Served, Late, Stops, Misfits, outcome, follows, answered, founded}
use Rattle.plsearch.specs.Handlers.{resume}
use Rattle.plsearch.specs.Engine.{out, outs, deeper, left}
use Rattle.plsearch.specs.Search.{Start, start_from, start_of, ending_of, search_of}
use Rattle.plsearch.specs.Machines.Machine.{Mode, At, Back, Machine, Rest, move, step, ask, meets, visits, choose, return, backs, turn_in, turn}
use Rattle.plsearch.specs.Machines.Weight.{weight, Lighter}
use Rattle.pltransactions.specs.Laws.{turns, machine_of, IsReached, SearchByTurns, asked_by, asked_first, asked_in, left_of, TakesWhatItAsks, WaitsForWhatItAsks, IsOfClauses, OpenAsksNoClauses, OpenAnswersStay, its_updates, OuterEndPublishes, InnerEndAsksNothing, ends, OpenHaveEnds, UndoEndsOne, NothingLeftOpen}
use Rattle.plsearch.proofs.Turns.{Rest-turn}
use Rattle.plsearch.proofs.Weight.{lighter-turn}
use Rattle.pltransactions.proofs.Contexts.{Choosing, Guarding, Undoing, Entry, entry, around, undos, Fits, FitsFirst, AsksNoClauses, Stands, leads-undos}
use Rattle.pltransactions.proofs.Balls.{named_with, named, HandlersFit}
use Rattle.pltransactions.proofs.Fitting.{CasesFit, PlaceFits, ResultFits, ModeFits, Fitting, stands-ended}
use Rattle.pltransactions.proofs.FittingTurns.{inner-updates, turn-fits}

-- a machine fits at its start, and so do those that it comes to
start-list : (gs : List Tree) → Fits (entry 0 Choosing ∷ []) (start_from gs).goals
unfolding Fits start_from
start-list [] = refl
start-list (g ∷ gs) = ([], inl (refl, refl), start-list gs)

first-list : (x : State) (gs : List Tree) → FitsFirst (entry 0 Choosing ∷ []) x (start_from gs).goals
unfolding FitsFirst start_from
first-list x [] = refl
first-list x (g ∷ gs) = start-list (g ∷ gs)

start-fits : (P : Program) (s : Start) (steps : ℕ) (answers : List Answer) → Fitting (machine_of P s steps answers)
unfolding CasesFit around start_of
start-fits P s steps answers = record {
  outside = (tt, tt);
  here = record { list = first-list nothing s.goals; open_here = record { count = refl; none = λ is. refl } };
}

turns-fit : (P : Program) (k : ℕ) (m : Machine) → Fitting m → Fitting (turns P k m)
turns-fit P zero m fit = fit
turns-fit P (suc k) m fit = turns-fit P k (turn P m) (turn-fits P m fit)

reached-fits : (P : Program) (m : Machine) → IsReached P m → Fitting m
reached-fits P m (s, steps, answers, k, is) = subst Fitting (sym is) (turns-fit P k (machine_of P s steps answers) (start-fits P s steps answers))

-- the machine comes to the end of its turns
abbrev Finishes : Program → Machine → Type 0
Finishes P m = (k : ℕ) × (r : Result) × (run : Supply) × (turns P k m ≡ record { mode = Back r; cases = []; run = run })

one-more : (P : Program) (m : Machine) → Finishes P (turn P m) → Finishes P m
one-more P m (k, r, run, is) = (suc k, r, run, is)

over-or-not : (mode : Mode) (cases : List Case) → ((r : Result) × (mode ≡ Back r) × (cases ≡ [])) ⊎ ((r : Result) → mode ≡ Back r → cases ≡ [] → ⊥)
over-or-not (At p) cases = inr (λ r is of. never r is)
  where
    never : (r : Result) → At p ≡ Back r → ⊥
    never r is = cc
over-or-not (Back r) [] = inl (r, refl, refl)
over-or-not (Back r) (c ∷ cases) = inr (λ r is of. never of)
  where
    never : ◌≡◌ {A = List Case} (c ∷ cases) [] → ⊥
    never of = cc

by-weight : (P : Program) (l : ℕ) → ((m : Machine) → left m.run < l → Finishes P m) → (w : ℕ) (m : Machine) → left m.run ≡ l → weight m < w → Finishes P m
by-weight P l fewer zero m is low = absurd (never low)
  where
    never : weight m < 0 → ⊥
    never low = omega (arith, low)
by-weight P l fewer (suc w) m is low = go (over-or-not m.mode m.cases) (by-weight P l fewer w (turn P m))
  where
    goes : Lighter m (turn P m) → (left (turn P m).run ≡ l → weight (turn P m) < w → Finishes P (turn P m)) → Finishes P m
    goes (inl less) rec = one-more P m (fewer (turn P m) (omega (arith, less, is)))
    goes (inr less) rec = let light = less.1 in one-more P m (rec (less.0 ∙ is) (omega (arith, light, low)))

    go : (((r : Result) × (m.mode ≡ Back r) × (m.cases ≡ [])) ⊎ ((r : Result) → m.mode ≡ Back r → m.cases ≡ [] → ⊥)) →
        (left (turn P m).run ≡ l → weight (turn P m) < w → Finishes P (turn P m)) → Finishes P m
    go (inl over) rec =
        (0, over.0, m.run, ap (λ x. record { mode = x; cases = m.cases; run = m.run }) over.1 ∙ ap (λ cs. record { mode = Back over.0; cases = cs; run = m.run }) over.2)
    go (inr more) rec = goes (lighter-turn P m more) rec

finishes : (P : Program) (l : ℕ) (m : Machine) → left m.run < l → Finishes P m
finishes P zero m low = absurd (never low)
  where
    never : left m.run < 0 → ⊥
    never low = omega (arith, low)
finishes P (suc l) m low = by-weight P (left m.run) (λ x less. finishes P l x (omega (arith, less, low))) (suc (weight m)) m refl (omega arith)

pub turns-rest : (P : Program) (k : ℕ) (m : Machine) → Rest P m ≡ Rest P (turns P k m)
turns-rest P zero m = refl
turns-rest P (suc k) m = Rest-turn P m ∙ turns-rest P k (turn P m)

pub search-by-turns : SearchByTurns
unfolding search_of Rest outs out
search-by-turns P s limit n answers =
    let start = machine_of P s (min n limit) answers in
    let end = finishes P (suc (left start.run)) start (omega arith) in
    (end.0, end.1, end.2, end.3, ap (ending_of (min n limit)) (turns-rest P end.0 start ∙ ap (Rest P) end.3))

-- answers are taken by what asks alone
move-answers : (cases : List Case) (run : Supply) (m : Move) → (move cases run m).run.answers ≡ run.answers
move-answers cases run (Give r w) = refl
move-answers cases run (Go cs p w) = refl

meets-answers : (P : Program) (cases : List Case) (e : Element) (es : List Element) (n : ℕ) (run : Supply) (m : Meeting) →
    (meets P cases e es n run m).run.answers ≡ left_of (asked_by m) run.answers
meets-answers P cases e es n run (Select k t) = go run.steps
  where
    go : (s : ℕ) → (step cases (select P run.below k t (deeper cases 0) es n) run s).run.answers ≡ run.answers
    go zero = refl
    go (suc s) = move-answers cases (record run { steps = s }) (select P run.below k t (deeper cases 0) es n run.local)
meets-answers P cases e es n run (Asks q) = go run.answers refl
  where
    go : (xs : List Answer) → run.answers ≡ xs → (ask cases e es n q run xs).run.answers ≡ left_of (Some q) xs
    go [] is = is
    go (a ∷ more) is = move-answers cases (record run { answers = more; below = founded e a run.below }) (answered e a (deeper cases 0) es n run.local)
meets-answers P cases e es n run (End r w) = refl
meets-answers P cases e es n run (Pass w) = refl
meets-answers P cases e es n run (Marked l us w) = refl

choose-answers : (cases : List Case) (run : Supply) (ps : List Resolvent) (r : Result) → (choose cases run ps r).run.answers ≡ run.answers
choose-answers cases run (p ∷ ps) Fail = refl
choose-answers cases run [] Fail = refl
choose-answers cases run (p ∷ ps) r = refl
choose-answers cases run [] r = refl

return-answers : (cases : List Case) (run : Supply) (b : Return) → (return cases run b).run.answers ≡ run.answers
return-answers cases run (Keep r w) = refl
return-answers cases run (Again p w) = refl
return-answers cases run (Anew p w) = refl

backs-answers : (r : Result) (run : Supply) (cases : List Case) → (backs r run cases).run.answers ≡ run.answers
backs-answers r run [] = refl
backs-answers r run (Choice ps ∷ cases) = choose-answers cases run ps r
backs-answers r run (Mark l ∷ cases) = refl
backs-answers r run (Handle h p ∷ cases) = return-answers cases run (resume h p (deeper cases 0) r run.local)

visits-answers : (P : Program) (cases : List Case) (es : List Element) (n : ℕ) (run : Supply) → (visits P cases es n run).run.answers ≡ left_of (asked_first es run.local) run.answers
visits-answers P cases [] n run = refl
visits-answers P cases (e ∷ es) n run = meets-answers P cases e es n run (meet e es run.local)

pub takes-what-it-asks : TakesWhatItAsks
unfolding turn
takes-what-it-asks P m = go m.mode
  where
    go : (mode : Mode) → (turn_in P m.cases m.run mode).run.answers ≡ left_of (asked_in mode m.run.local) m.run.answers
    go (At p) = visits-answers P m.cases p.goals p.variables m.run
    go (Back r) = backs-answers r m.run m.cases

pub waits-for-what-it-asks : WaitsForWhatItAsks
unfolding turn
waits-for-what-it-asks P m q is none = go m.mode is
  where
    nothing-asked : ◌≡◌ {A = Option Item} None (Some q) → ⊥
    nothing-asked is = cc

    meeting : (e : Element) (es : List Element) (n : ℕ) (x : Meeting) → asked_by x ≡ Some q → meets P m.cases e es n m.run x ≡ record { mode = Back (Awaits q); cases = m.cases; run = m.run }
    meeting e es n (Asks q') is = let same : q' ≡ q = cc in rw (none, same) refl
    meeting e es n (Select k t) is = absurd (nothing-asked is)
    meeting e es n (End r w) is = absurd (nothing-asked is)
    meeting e es n (Pass w) is = absurd (nothing-asked is)
    meeting e es n (Marked l us w) is = absurd (nothing-asked is)

    first : (es : List Element) (n : ℕ) → asked_first es m.run.local ≡ Some q → visits P m.cases es n m.run ≡ record { mode = Back (Awaits q); cases = m.cases; run = m.run }
    first [] n is = absurd (nothing-asked is)
    first (e ∷ es) n is = meeting e es n (meet e es m.run.local) is

    go : (mode : Mode) → asked_in mode m.run.local ≡ Some q → turn_in P m.cases m.run mode ≡ record { mode = Back (Awaits q); cases = m.cases; run = m.run }
    go (At p) is = first p.goals p.variables is
    go (Back r) is = absurd (nothing-asked is)

nothing-asked : {A : Type 0} (q : Item) → ◌≡◌ {A = Option Item} None (Some q) → A
nothing-asked q is = absurd (never is)
  where
    never : ◌≡◌ {A = Option Item} None (Some q) → ⊥
    never is = cc

closed-open : (x : State) → any_open x ≡ false → any_open x ≡ true → ⊥
closed-open x closed now = never (sym closed ∙ now)
  where
    never : false ≡ true → ⊥
    never is = cc

-- where something is open, the erasure of a clause is an own update, and is not asked for
erases-none : (x : ClauseName) (w : Local) (q : Item) → any_open w.own ≡ true → asked_by (erasing x w) ≡ Some q → ⊥
erases-none x w q now is = go (any_open w.own) (erased_in (target_at w.own.base x) w.own.updates) now is
  where
    go : (b c : Bool) → b ≡ true → asked_by (if not b then Asks (Ask (EraseOne x)) else (if c then End Fail w else Pass (record w { own = made (Erase x) w.own }))) ≡ Some q → ⊥
    go true true now is = nothing-asked q is
    go true false now is = nothing-asked q is
    go false c now is = never now
      where
        never : false ≡ true → ⊥
        never is = cc

pub open-asks-no-clauses : OpenAsksNoClauses
unfolding meet FitsFirst
open-asks-no-clauses P m q reached now is of = go m.mode (reached-fits P m reached).here is
  where
    asks : (x : Question) → ((any_open m.run.local.own ≡ false) ⊎ AsksNoClauses x) → Some (asked x) ≡ Some q → ⊥
    asks x (inl closed) is = closed-open m.run.local.own closed now
    asks x (inr none) is = let one : asked x ≡ q = cc in none (subst IsOfClauses (sym one) of)

    first : (es : List Element) → FitsFirst (around m.cases) m.run.local.own es → asked_first es m.run.local ≡ Some q → ⊥
    first [] fit is = nothing-asked q is
    first (Goal k t ∷ es) fit is = nothing-asked q is
    first (Marker Commit l ∷ es) fit is = nothing-asked q is
    first (Marker Never l ∷ es) fit is = nothing-asked q is
    first (Marker Until l ∷ es) fit is = nothing-asked q is
    first (Marker (Collect t) l ∷ es) fit is = nothing-asked q is
    first (Marker (Transact d) l ∷ es) fit is = nothing-asked q is
    first (Raise b ∷ es) fit is = nothing-asked q is
    first (Asking (Question.Erase x) ∷ es) fit is = erases-none x m.run.local q now is
    first (Asking x ∷ es) fit is = asks x fit.0 is

    go : (mode : Mode) → ModeFits m.cases m.run.local.own mode → asked_in mode m.run.local ≡ Some q → ⊥
    go (At p) fit is = first p.goals fit.list is
    go (Back r) fit is = nothing-asked q is

pub open-answers-stay : OpenAnswersStay
unfolding turn meet answered
open-answers-stay P m q reached now is = go m.mode is
  where
    Stays : Machine → Type 0
    Stays x = (x.run.local.own ≡ m.run.local.own) × (x.run.below ≡ m.run.below)

    no-view : {A : Type 0} → Some View ≡ Some q → A
    no-view is_view = let one : View ≡ q = cc in absurd (open-asks-no-clauses P m q reached now is (subst IsOfClauses one tt))

    moved : (o : Outcome) (t : Then) (es : List Element) (n : ℕ) (more : List Answer) → Stays (move m.cases (record m.run { answers = more }) (follows o t es n m.run.local))
    moved Served GoesOn es n more = (refl, refl)
    moved Served (Ends k) es n more = (refl, refl)
    moved Late t es n more = (refl, refl)
    moved Stops t es n more = (refl, refl)
    moved Misfits t es n more = (refl, refl)

    awaits : (r : Request) (t : Then) (es : List Element) (n : ℕ) (xs : List Answer) → Stays (ask m.cases (Asking (Await r t)) es n (Ask r) m.run xs)
    awaits r t es n [] = (refl, refl)
    awaits r t es n (Seen g us ∷ more) = (refl, refl)
    awaits r t es n (Got x ∷ more) = moved (outcome r x) t es n more

    first : (es : List Element) (n : ℕ) → asked_first es m.run.local ≡ Some q → Stays (visits P m.cases es n m.run)
    first [] n is = nothing-asked q is
    first (Goal k t ∷ es) n is = nothing-asked q is
    first (Marker Commit l ∷ es) n is = nothing-asked q is
    first (Marker Never l ∷ es) n is = nothing-asked q is
    first (Marker Until l ∷ es) n is = nothing-asked q is
    first (Marker (Collect t) l ∷ es) n is = nothing-asked q is
    first (Marker (Transact d) l ∷ es) n is = nothing-asked q is
    first (Raise b ∷ es) n is = nothing-asked q is
    first (Asking (Look u) ∷ es) n is = no-view is
    first (Asking (Begin i g) ∷ es) n is = no-view is
    first (Asking (Await r t) ∷ es) n is = awaits r t es n m.run.answers
    first (Asking (Question.Erase x) ∷ es) n is = absurd (erases-none x m.run.local q now is)

    go : (mode : Mode) → asked_in mode m.run.local ≡ Some q → Stays (turn_in P m.cases m.run mode)
    go (At p) is = first p.goals p.variables is
    go (Back r) is = nothing-asked q is

-- ends with success
outer-updates : (us : List Update) (level : Level) (i : Isolation) → level.kind ≡ i → published (ending_at true us (level ∷ [])) ≡ its_updates i us
outer-updates [] level Transaction is = rw is refl
outer-updates (u ∷ us) level Transaction is = rw is refl
outer-updates us level Snapshot is = rw is refl

pub outer-end-publishes : OuterEndPublishes
unfolding turn meet
outer-end-publishes P d l p cases run level is =
    ap (λ ls. behind (published (ending_at true run.local.own.updates ls)) (ended_at true run.local.own ls)) is
    ∙ ap (λ us. behind us nothing) (outer-updates run.local.own.updates level level.kind refl)
  where
    behind : List Update → State → Machine
    behind us x = record { mode = At (record { goals = publishing us p.goals; variables = p.variables }); cases = Mark d ∷ cases; run = record run { local = record run.local { own = x } } }

pub inner-end-asks-nothing : InnerEndAsksNothing
unfolding turn meet
inner-end-asks-nothing P d l p cases run level outer levels is =
    ap (λ us. behind us) (ap (λ ls. published (ending_at true run.local.own.updates ls)) is ∙ inner-updates run.local.own.updates level outer levels level.kind refl)
  where
    behind : List Update → Machine
    behind us =
        record { mode = At (record { goals = publishing us p.goals; variables = p.variables }); cases = Mark d ∷ cases; run = record run { local = record run.local { own = ended true run.local.own } } }

-- as many are open as a list has ends
fits-ends : (Γ : List Entry) (es : List Element) → Fits Γ es → ends es ≡ undos Γ
unfolding Fits
fits-ends Γ [] h = sym h
fits-ends Γ (Goal k t ∷ es) h = fits-ends (entry k Choosing ∷ h.0) es h.2 ∙ sym (leads-undos Γ Choosing k h.0 h.1)
fits-ends Γ (Marker Commit l ∷ es) h = fits-ends (entry l Choosing ∷ h.0) es h.2 ∙ sym (leads-undos Γ Choosing l h.0 h.1)
fits-ends Γ (Marker Never l ∷ es) h = fits-ends (entry l Choosing ∷ h.0) es h.2 ∙ sym (leads-undos Γ Choosing l h.0 h.1)
fits-ends Γ (Marker Until l ∷ es) h = fits-ends h.0 es h.2 ∙ sym (leads-undos Γ Guarding l h.0 h.1)
fits-ends Γ (Marker (Collect t) l ∷ es) h = fits-ends h.0 es h.2 ∙ sym (leads-undos Γ Guarding l h.0 h.1)
fits-ends Γ (Marker (Transact d) l ∷ es) h = ap suc (fits-ends (entry d Choosing ∷ h.0) es h.2) ∙ sym (leads-undos Γ Undoing l (entry d Choosing ∷ h.0) h.1)
fits-ends Γ (Raise b ∷ es) h = fits-ends Γ es h
fits-ends Γ (Asking (Question.Erase x) ∷ es) h = fits-ends Γ es h
fits-ends Γ (Asking q ∷ es) h = absurd h

first-ends : (Γ : List Entry) (x : State) (es : List Element) → FitsFirst Γ x es → ends es ≡ undos Γ
unfolding FitsFirst
first-ends Γ x (Asking (Question.Erase y) ∷ es) h = fits-ends Γ es h
first-ends Γ x (Asking q ∷ es) h = fits-ends Γ es h.1
first-ends Γ x [] h = fits-ends Γ [] h
first-ends Γ x (Goal k t ∷ es) h = fits-ends Γ (Goal k t ∷ es) h
first-ends Γ x (Marker m l ∷ es) h = fits-ends Γ (Marker m l ∷ es) h
first-ends Γ x (Raise b ∷ es) h = fits-ends Γ (Raise b ∷ es) h

pub open-have-ends : OpenHaveEnds
open-have-ends P m p reached is = go (subst (ModeFits m.cases m.run.local.own) is (reached-fits P m reached).here)
  where
    go : PlaceFits m.cases m.run.local.own p.goals → length m.run.local.own.levels ≡ ends p.goals
    go fit = fit.open_here.count ∙ sym (first-ends (around m.cases) m.run.local.own p.goals fit.list)

pub undo-ends-one : UndoEndsOne
unfolding turn resume CasesFit ResultFits around named HandlersFit
undo-ends-one P Fail p cases run reached is =
    let fit = reached-fits P (record { mode = Back Fail; cases = Handle Undo p ∷ cases; run = run }) reached in
    (stands-ended false run.local.own (undos (around cases)) fit.here).count ∙ sym (fits-ends (around cases) p.goals fit.outside.0)
undo-ends-one P (Throw b ls) p cases run reached is =
    let fit = reached-fits P (record { mode = Back (Throw b ls); cases = Handle Undo p ∷ cases; run = run }) reached in
    let open_here : Stands run.local.own (suc (named cases ls)) = subst (λ b. Stands run.local.own (named_with Undo b (named cases ls))) is fit.here.open_here in
    let left : length (ended false run.local.own).levels ≡ ends p.goals =
    (stands-ended false run.local.own (named cases ls) open_here).count ∙ fit.here.each.0 is ∙ sym (fits-ends (around cases) p.goals fit.outside.0) in
    rw is left
undo-ends-one P r p cases run reached is = absurd is

pub nothing-left-open : NothingLeftOpen
unfolding CasesFit ResultFits around named
nothing-left-open P Stop run reached is = (reached-fits P (record { mode = Back Stop; cases = []; run = run }) reached).here.none refl
nothing-left-open P Fail run reached is = (reached-fits P (record { mode = Back Fail; cases = []; run = run }) reached).here.none refl
nothing-left-open P (CutTo l) run reached is = absurd (never (reached-fits P (record { mode = Back (CutTo l); cases = []; run = run }) reached).here.choice.1)
  where
    never : {Δ : List Entry} → ◌≡◌ {A = List Entry} [] (entry l Choosing ∷ Δ) → ⊥
    never is = cc
nothing-left-open P (Throw b ls) run reached is = (reached-fits P (record { mode = Back (Throw b ls); cases = []; run = run }) reached).here.open_here.none refl
nothing-left-open P r run reached is = absurd is

pub ruleset laws = (search-by-turns, takes-what-it-asks, waits-for-what-it-asks, open-asks-no-clauses, open-answers-stay, outer-end-publishes, inner-end-asks-nothing, open-have-ends, undo-ends-one, nothing-left-open)
