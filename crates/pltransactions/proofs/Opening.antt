-- Which turns begin and end what is open.
use Rattle.std.specs.Prelude.{codes, not}
use Rattle.std.proofs.Common.{◌≡◌, ℕ, zero, suc, ◌+◌, Bool, true, false, if◌then◌else◌, List, [], ◌∷◌, ◌++◌, length, map, Option, Some, None, refl, sym, ap, ◌∙◌}
use Rattle.std.specs.List.{filter_map}
use Rattle.plterm.specs.Tree.{Tree, var, int, atom, compound}
use Rattle.plterm.specs.Variables.{copied, variables}
use Rattle.plterm.specs.declared.indicator.Indicator.{Indicator}
use Rattle.plsubst.specs.Subst.{bind}
use Rattle.plsubst.specs.Unify.{unify}
use Rattle.plclause.specs.Clause.{Clause}
use Rattle.plclause.specs.Indicators.{indicator}
use Rattle.plclause.specs.Clausal.{clausal}
use Rattle.plclause.specs.declared.form.ClauseForm.{ClauseForm}
use Rattle.plclause.specs.declared.form.ClauseForm.TheVariants.{NoHead, BadHead, BadBody, IsClause}
use Rattle.plclause.specs.Named.{named_terms, indicator_of}
use Rattle.plevent.specs.declared.update.ClauseName.{ClauseName}
use Rattle.plevent.specs.declared.update.Update.{Update}
use Rattle.plevent.specs.declared.update.Update.TheVariants.{Declare, Erase}
use Rattle.plevent.specs.declared.request.Request.TheVariants.{EraseOne}
use Rattle.plevent.specs.Alive.{Stamped, or_else, exists, living, clauses_alive}
use Rattle.plevent.specs.Search.{Item, View, Ask, Answer, Seen, Got}
use Rattle.pltx.specs.Own.{State, some_open, any_open, begun_at, begun, ended_at, ended, all_made, made, erased_in, target_at}
use Rattle.pltx.specs.declared.level.Isolation.{Isolation}
use Rattle.pltx.specs.declared.level.Level.{Level}
use Rattle.plnames.specs.declared.kind.Side.{Side}
use Rattle.plprogram.specs.Program.{Program, clauses_for}
use Rattle.plprogram.specs.declared.settings.Unknown.{Unknown}
use Rattle.plprogram.specs.declared.settings.Unknown.TheVariants as unknown
use Rattle.plerror.specs.Errors.{type_error}
use Rattle.plbuiltin.specs.Lists.{may_be_list}
use Rattle.plbuiltin.specs.Solution.{Solution, Solved, Gives, Raises as Refuses}
use Rattle.plbuiltin.specs.Solutions.{solutions}
use Rattle.plsearch.specs.Types.{Result, Fail, Throw, Commit, Never, Until, Collect, Transact, Then, GoesOn, Ends, Lookup, ToCall, ToRetrieve, ToRetract, ToRetractAll, Question, Look, Begin, Await, Element, Goal, Marker, Raise, Asking, Resolvent, Case, Choice, Mark, Handle, Handler, Catch, Gather, Undo, Local, Move, Give, Go, Asks, End, Pass, Return, Keep, Again, Anew, Supply}
use Rattle.plsearch.specs.Lists.{bind_goals}
use Rattle.plsearch.specs.Forms.{Form, True, False, Both, Either, IfThenElse, Not, Once, Catching, FindAll, Within, Throwing, CallWith, Cut, Halting, Adding, Retrieving, Retracting, RetractingAll, Declaring, BuiltIn, Call, NoGoal, form}
use Rattle.plsearch.specs.Running.{Runnable, Runs, Raises, runnable}
use Rattle.plsearch.specs.Collecting.{copies_from, dropped, gathered}
use Rattle.plsearch.specs.Moves.{resolve, choose, raised, go_on, publish, publishing}
use Rattle.plsearch.specs.Lookups.{clause_term, as_fact, missing, retract, all_erased, looked_up, seen, seek}
use Rattle.plsearch.specs.Rows.{finding, beginning, thrown, halting, unless, unchangeable, added, add, no_head, no_body, unreadable, retrieving, halves, unerasable, undeclarable, user, solved, taken, offered, offer, row, select, asked, erasing, meet}
use Rattle.plsearch.specs.Replies.{Outcome, Served, Late, Stops, Misfits, outcome, follows, answered}
use Rattle.plsearch.specs.Handlers.{has, recovers, met_by, goes_on, undone, resume}
use Rattle.plsearch.specs.Engine.{deeper}
use Rattle.plsearch.specs.Machines.Machine.{Mode, At, Back, Machine, move, step, ask, meets, visits, choose as chooses, return, backs, turn_in, turn}
use Rattle.pltransactions.specs.Laws.{asked_first, asked_in, wanted, IsAtMarker, IsAtUndo, IsEnding, OpensWithView, ClosesAtItsEnd}
use Rattle.pltransactions.proofs.Fitting.{all-made-levels}

abbrev local_of : Move → Local
local_of (Give r w) = w
local_of (Go cs p w) = w

-- a move leaves open what was open
abbrev Keeps : Local → Move → Type 0
Keeps w m = any_open (local_of m).own ≡ any_open w.own

made-keeps : (us : List Update) (x : State) → any_open (all_made us x) ≡ any_open x
made-keeps us x = ap some_open (all-made-levels us x)

begun-open : (i : Isolation) (b : ℕ) (x : State) → any_open (begun i b x) ≡ true
begun-open i b x = go x.levels
  where
    go : (ls : List Level) → any_open (begun_at i b x ls) ≡ true
    go [] = refl
    go (l ∷ ls) = refl

one-of : (b : Bool) (m m' : Move) (w : Local) → (b ≡ true → Keeps w m) → Keeps w m' → Keeps w (if b then m else m')
one-of true m m' w h h' = h refl
one-of false m m' w h h' = h'

raised-keeps : (e : Tree) (p : Indicator) (es : List Element) (w : Local) → Keeps w (raised e p es w)
unfolding raised
raised-keeps e p es w = refl

choose-keeps : (ps : List Resolvent) (w : Local) → Keeps w (choose ps w)
choose-keeps [] w = refl
choose-keeps (p ∷ ps) w = refl

publish-keeps : (us : List Update) (rest : List Element) (n : ℕ) (w : Local) → Keeps w (publish us rest n w)
publish-keeps us rest n w = one-of (any_open w.own) _ (go_on (publishing us rest) n w) w (λ now. made-keeps us w.own) refl

unless-keeps : (o : Option Tree) (p : Indicator) (rest : List Element) (w : Local) (m : Move) → Keeps w m → Keeps w (unless o p rest w m)
unless-keeps (Some e) p rest w m h = raised-keeps e p rest w
unless-keeps None p rest w m h = h

thrown-keeps : (b : Tree) (rest : List Element) (w : Local) → Keeps w (thrown b rest w)
thrown-keeps (var x) rest w = raised-keeps _ _ rest w
thrown-keeps (int i) rest w = refl
thrown-keeps (atom f) rest w = refl
thrown-keeps (compound f ts) rest w = refl

halting-keeps : (t : Tree) (rest : List Element) (n : ℕ) (w : Local) → Keeps w (halting t rest n w)
halting-keeps (var x) rest n w = raised-keeps _ _ rest w
halting-keeps (int i) rest n w = refl
halting-keeps (atom f) rest n w = raised-keeps _ _ rest w
halting-keeps (compound f ts) rest n w = raised-keeps _ _ rest w

add-keeps : (P : Program) (side : Side) (p : Indicator) (c : ClauseForm) (rest : List Element) (n : ℕ) (w : Local) → Keeps w (add P side p c rest n w)
add-keeps P side p NoHead rest n w = raised-keeps _ _ rest w
add-keeps P side p (BadHead h) rest n w = raised-keeps _ _ rest w
add-keeps P side p (BadBody b) rest n w = raised-keeps _ _ rest w
add-keeps P side p (IsClause c) rest n w = unless-keeps (unchangeable P (indicator c.head)) p rest w _ (publish-keeps (added side c ∷ []) rest n w)

missing-keeps : (u : Unknown) (t : Tree) (rest : List Element) (w : Local) → Keeps w (missing u t rest w)
missing-keeps unknown.Error t rest w = raised-keeps _ _ rest w
missing-keeps unknown.Fail t rest w = refl

looked-up-keeps : (us : List Stamped) (u : Lookup) (d : ℕ) (rest : List Element) (n : ℕ) (w : Local) → Keeps w (looked_up us u d rest n w)
looked-up-keeps us (ToCall t) d rest n w =
    one-of (exists us (indicator t)) _ (missing w.settings.unknown t rest w) w (λ there. choose-keeps (filter_map (resolve d n t rest) (clauses_alive us (indicator t))) w) (missing-keeps w.settings.unknown t rest w)
looked-up-keeps us (ToRetrieve h b) d rest n w = choose-keeps (filter_map (resolve d n (clause_term h b) rest) (map as_fact (clauses_alive us (indicator h)))) w
looked-up-keeps us (ToRetract h b) d rest n w = choose-keeps (filter_map (retract d n (clause_term h b) rest) (living us (indicator h))) w
looked-up-keeps us (ToRetractAll h) d rest n w = publish-keeps (all_erased us n h) rest n w

seek-keeps : (below : List Stamped) (u : Lookup) (d : ℕ) (rest : List Element) (n : ℕ) (w : Local) → Keeps w (seek below u d rest n w)
seek-keeps below u d rest n w = one-of (any_open w.own) _ (go_on (Asking (Look u) ∷ rest) n w) w (λ now. looked-up-keeps (seen below w.own) u d rest n w) refl

retrieving-keeps : (below : List Stamped) (xs : List Clause) (d : ℕ) (h b : Tree) (rest : List Element) (n : ℕ) (w : Local) → Keeps w (retrieving below xs d h b rest n w)
retrieving-keeps below [] d h b rest n w = seek-keeps below (ToRetrieve h b) d rest n w
retrieving-keeps below (x ∷ xs) d h b rest n w = choose-keeps (filter_map (resolve d n (clause_term h b) rest) (map as_fact (x ∷ xs))) w

user-keeps : (below : List Stamped) (xs : List Clause) (d : ℕ) (t : Tree) (rest : List Element) (n : ℕ) (w : Local) → Keeps w (user below xs d t rest n w)
user-keeps below [] d t rest n w = seek-keeps below (ToCall t) d rest n w
user-keeps below (x ∷ xs) d t rest n w = choose-keeps (filter_map (resolve d n t rest) (x ∷ xs)) w

taken-keeps : (o : Option Resolvent) (w : Local) → Keeps w (taken o w)
taken-keeps None w = refl
taken-keeps (Some p) w = refl

offered-keeps : (ss : List Solution) (rest : List Element) (n : ℕ) (w : Local) → Keeps w (offered ss rest n w)
offered-keeps [] rest n w = refl
offered-keeps (s ∷ []) rest n w = taken-keeps (solved rest n s) w
offered-keeps (s ∷ t ∷ ss) rest n w = choose-keeps (filter_map (solved rest n) (s ∷ t ∷ ss)) w

offer-keeps : (x : Solved) (p : Indicator) (rest : List Element) (n : ℕ) (w : Local) → Keeps w (offer x p rest n w)
offer-keeps (Refuses e) p rest n w = raised-keeps e p rest w
offer-keeps (Gives ss bytes settings) p rest n w = offered-keeps ss rest n (record w { out = w.out ++ bytes; settings = settings })

finding-keeps : (t g l : Tree) (d : ℕ) (rest : List Element) (n : ℕ) (w : Local) → Keeps w (finding t g l d rest n w)
finding-keeps t g l d rest n w = one-of (may_be_list l) _ (raised (type_error (codes "list") l) _ rest w) w (λ may. refl) (raised-keeps _ _ rest w)

beginning-keeps : (i : Isolation) (g : Tree) (d : ℕ) (rest : List Element) (n : ℕ) (w : Local) → Keeps w (beginning i g d rest n w)
beginning-keeps i g d rest n w = one-of (any_open w.own) _ (go_on (Asking (Begin i g) ∷ rest) n w) w (λ now. begun-open i w.own.base w.own ∙ sym now) refl

row-keeps : (P : Program) (below : List Stamped) (c : Form) (k : ℕ) (t : Tree) (d : ℕ) (rest : List Element) (n : ℕ) (w : Local) → Keeps w (row P below c k t d rest n w)
unfolding row
row-keeps P below True k t d rest n w = refl
row-keeps P below False k t d rest n w = refl
row-keeps P below (Both a b) k t d rest n w = refl
row-keeps P below (Either a b) k t d rest n w = refl
row-keeps P below (IfThenElse c a e) k t d rest n w = refl
row-keeps P below (Not g) k t d rest n w = refl
row-keeps P below (Catching g c r) k t d rest n w = refl
row-keeps P below (FindAll a g l) k t d rest n w = finding-keeps a g l d rest n w
row-keeps P below (Within i g) k t d rest n w = beginning-keeps i g d rest n w
row-keeps P below (Throwing b) k t d rest n w = thrown-keeps b rest w
row-keeps P below (Once g) k t d rest n w = refl
row-keeps P below (CallWith g us) k t d rest n w = refl
row-keeps P below Cut k t d rest n w = refl
row-keeps P below (Halting i) k t d rest n w = halting-keeps i rest n w
row-keeps P below (Adding side c) k t d rest n w = add-keeps P side (indicator t) (clausal c) rest n w
row-keeps P below (Retrieving h b) k t d rest n w =
    unless-keeps (or_else (no_head h) (or_else (no_body b) (unreadable (indicator h)))) (indicator t) rest w _ (retrieving-keeps below (clauses_for P (indicator h)) d h b rest n w)
row-keeps P below (Retracting c) k t d rest n w = unless-keeps (unerasable P (halves c).0) (indicator t) rest w _ (seek-keeps below (ToRetract (halves c).0 (halves c).1) d rest n w)
row-keeps P below (RetractingAll h) k t d rest n w = unless-keeps (unerasable P h) (indicator t) rest w _ (seek-keeps below (ToRetractAll h) d rest n w)
row-keeps P below (Declaring ps) k t d rest n w =
    unless-keeps (undeclarable P (named_terms ps)) (indicator t) rest w _ (publish-keeps (map Declare (filter_map indicator_of (named_terms ps))) rest n w)
row-keeps P below (BuiltIn b us) k t d rest n w = offer-keeps (solutions b us w.settings n) (indicator t) rest n w
row-keeps P below (Call p) k t d rest n w = user-keeps below (clauses_for P p) d t rest n w
row-keeps P below NoGoal k t d rest n w = refl

select-keeps : (P : Program) (below : List Stamped) (k : ℕ) (t : Tree) (d : ℕ) (rest : List Element) (n : ℕ) (w : Local) → Keeps w (select P below k t d rest n w)
unfolding select
select-keeps P below k t d rest n w = row-keeps P below (form t) k t d rest n w

follows-keeps : (o : Outcome) (t : Then) (rest : List Element) (n : ℕ) (w : Local) → Keeps w (follows o t rest n w)
follows-keeps Served GoesOn rest n w = refl
follows-keeps Served (Ends k) rest n w = refl
follows-keeps Late t rest n w = refl
follows-keeps Stops t rest n w = refl
follows-keeps Misfits t rest n w = refl

-- what a turn does to what is open: nothing, or one begins with a view, or it is an end
data Does (old new : State) (ends begins : Type 0) : Type 0 where
  Same : any_open new ≡ any_open old → Does old new ends begins
  Opens : begins → any_open new ≡ true → Does old new ends begins
  Closes : ends → (any_open old ≡ false → any_open new ≡ false) → Does old new ends begins

ended-closed : (success : Bool) (x : State) → any_open x ≡ false → any_open (ended success x) ≡ false
ended-closed success x closed = go x.levels closed closed
  where
    go : (ls : List Level) → some_open ls ≡ false → any_open x ≡ false → any_open (ended_at success x ls) ≡ false
    go [] is closed = closed
    go (l ∷ ls) is closed = cc

-- of a turn at a list whose first element asks for an item
abbrev AtList : Supply → List Element → State → Type 0
AtList run es new = Does run.local.own new (IsAtMarker es) (asked_first es run.local ≡ Some View)

move-does : (cases : List Case) (run : Supply) (m : Move) (es : List Element) → Keeps run.local m → AtList run es (move cases run m).run.local.own
move-does cases run (Give r w) es h = Same h
move-does cases run (Go cs p w) es h = Same h

asking-does : (cases : List Case) (q : Question) (es : List Element) (n : ℕ) (run : Supply) (xs : List Answer) → AtList run (Asking q ∷ es) (ask cases (Asking q) es n (asked q) run xs).run.local.own
unfolding answered meet
asking-does cases q es n run [] = Same refl
asking-does cases (Look u) es n run (Seen g us ∷ more) =
    move-does cases (record run { answers = more }) (looked_up us u (deeper cases 0) es n run.local) (Asking (Look u) ∷ es) (looked-up-keeps us u (deeper cases 0) es n run.local)
asking-does cases (Look u) es n run (Got r ∷ more) = Same refl
asking-does cases (Begin i g) es n run (Seen v us ∷ more) = Opens refl (begun-open i v run.local.own)
asking-does cases (Begin i g) es n run (Got r ∷ more) = Same refl
asking-does cases (Await q t) es n run (Got r ∷ more) =
    move-does cases (record run { answers = more }) (follows (outcome q r) t es n run.local) (Asking (Await q t) ∷ es) (follows-keeps (outcome q r) t es n run.local)
asking-does cases (Await q t) es n run (Seen g us ∷ more) = Same refl
asking-does cases (Question.Erase x) es n run (Got r ∷ more) =
    move-does cases (record run { answers = more }) (follows (outcome (EraseOne x) r) GoesOn es n run.local) (Asking (Question.Erase x) ∷ es) (follows-keeps (outcome (EraseOne x) r) GoesOn es n run.local)
asking-does cases (Question.Erase x) es n run (Seen g us ∷ more) = Same refl

erasing-does : (P : Program) (cases : List Case) (x : ClauseName) (es : List Element) (n : ℕ) (run : Supply) →
    AtList run (Asking (Question.Erase x) ∷ es) (meets P cases (Asking (Question.Erase x)) es n run (erasing x run.local)).run.local.own
erasing-does P cases x es n run = go (not (any_open run.local.own)) (erased_in (target_at run.local.own.base x) run.local.own.updates)
  where
    go : (b c : Bool) → AtList run (Asking (Question.Erase x) ∷ es)
        (meets P cases (Asking (Question.Erase x)) es n run (if b then Asks (Ask (EraseOne x)) else (if c then End Fail run.local else Pass (record run.local { own = made (Erase x) run.local.own })))).run.local.own
    go true c = asking-does cases (Question.Erase x) es n run run.answers
    go false true = Same refl
    go false false = Same (made-keeps (Erase x ∷ []) run.local.own)

visits-do : (P : Program) (cases : List Case) (es : List Element) (n : ℕ) (run : Supply) → AtList run es (visits P cases es n run).run.local.own
unfolding meet
visits-do P cases [] n run = Same refl
visits-do P cases (Goal k t ∷ es) n run = go run.steps
  where
    go : (s : ℕ) → AtList run (Goal k t ∷ es) (step cases (select P run.below k t (deeper cases 0) es n) run s).run.local.own
    go zero = Same refl
    go (suc s) =
        move-does cases (record run { steps = s }) (select P run.below k t (deeper cases 0) es n run.local) (Goal k t ∷ es) (select-keeps P run.below k t (deeper cases 0) es n run.local)
visits-do P cases (Marker Commit l ∷ es) n run = Same refl
visits-do P cases (Marker Never l ∷ es) n run = Same refl
visits-do P cases (Marker Until l ∷ es) n run = Same refl
visits-do P cases (Marker (Collect t) l ∷ es) n run = Same refl
visits-do P cases (Marker (Transact d) l ∷ es) n run = Closes tt (ended-closed true run.local.own)
visits-do P cases (Raise b ∷ es) n run = Same refl
visits-do P cases (Asking (Question.Erase x) ∷ es) n run = erasing-does P cases x es n run
visits-do P cases (Asking q ∷ es) n run = asking-does cases q es n run run.answers

-- of a turn with a result
choose-does : (cases : List Case) (run : Supply) (ps : List Resolvent) (r : Result) → any_open (chooses cases run ps r).run.local.own ≡ any_open run.local.own
choose-does cases run (p ∷ ps) Fail = refl
choose-does cases run [] Fail = refl
choose-does cases run (p ∷ ps) r = refl
choose-does cases run [] r = refl

abbrev return_local : Return → Local
return_local (Keep r w) = w
return_local (Again p w) = w
return_local (Anew p w) = w

return-is : (cases : List Case) (run : Supply) (b : Return) → (return cases run b).run.local ≡ return_local b
return-is cases run (Keep r w) = refl
return-is cases run (Again p w) = refl
return-is cases run (Anew p w) = refl

resume-does : (h : Handler) (p : Resolvent) (d : ℕ) (r : Result) (w : Local) (cases : List Case) → Does w.own (return_local (resume h p d r w)).own (IsAtUndo (Handle h p ∷ cases)) ⊥
unfolding resume
resume-does (Catch c r) p d (Throw b ls) w cases = Same (go (has d ls))
  where
    recovers-keeps : (x : Runnable) (es : List Element) (n : ℕ) → any_open (return_local (recovers x d es n w)).own ≡ any_open w.own
    recovers-keeps (Runs g) es n = refl
    recovers-keeps (Raises e) es n = refl

    met : (o : Option (ℕ → Tree)) → any_open (return_local (met_by o r b ls p d w)).own ≡ any_open w.own
    met None = refl
    met (Some σ) = recovers-keeps (runnable (bind σ r)) (bind_goals σ p.goals) (p.variables + length (variables b))

    go : (x : Bool) → any_open (return_local (if x then met_by (unify c (copied p.variables b)) r b ls p d w else Keep (Throw b ls) w)).own ≡ any_open w.own
    go true = met (unify c (copied p.variables b))
    go false = refl
resume-does (Catch c r) p d x w cases = Same refl
resume-does (Gather l) p d Fail w cases = Same (go (solved p.goals p.variables (gathered l (copies_from d w.kept) p.variables)))
  where
    go : (o : Option Resolvent) → any_open (return_local (goes_on o (dropped d w))).own ≡ any_open w.own
    go None = refl
    go (Some p) = refl
resume-does (Gather l) p d x w cases = Same refl
resume-does Undo p d Fail w cases = Closes tt (ended-closed false w.own)
resume-does Undo p d (Throw b ls) w cases = Closes tt (go (has d ls))
  where
    go : (x : Bool) → any_open w.own ≡ false → any_open (if x then undone w else w).own ≡ false
    go true is = ended-closed false w.own is
    go false is = is
resume-does Undo p d x w cases = Same refl

turn-does : (P : Program) (m : Machine) → Does m.run.local.own (turn P m).run.local.own (IsEnding m.mode m.cases) (wanted m ≡ Some View)
unfolding turn
turn-does P m = go m.mode
  where
    with_handler : (h : Handler) (p : Resolvent) (r : Result) (cases : List Case) → Does m.run.local.own (return_local (resume h p (deeper cases 0) r m.run.local)).own (IsAtUndo (Handle h p ∷ cases)) ⊥ →
        Does m.run.local.own (return cases m.run (resume h p (deeper cases 0) r m.run.local)).run.local.own (IsAtUndo (Handle h p ∷ cases)) (◌≡◌ {A = Option Item} None (Some View))
    with_handler h p r cases (Same is) = Same (ap (λ w. any_open w.own) (return-is cases m.run (resume h p (deeper cases 0) r m.run.local)) ∙ is)
    with_handler h p r cases (Opens no-view is) = absurd no-view
    with_handler h p r cases (Closes at is) = Closes at (λ closed. ap (λ w. any_open w.own) (return-is cases m.run (resume h p (deeper cases 0) r m.run.local)) ∙ is closed)

    outward : (r : Result) (cases : List Case) → Does m.run.local.own (backs r m.run cases).run.local.own (IsAtUndo cases) (◌≡◌ {A = Option Item} None (Some View))
    outward r [] = Same refl
    outward r (Choice ps ∷ cases) = Same (choose-does cases m.run ps r)
    outward r (Mark l ∷ cases) = Same refl
    outward r (Handle h p ∷ cases) = with_handler h p r cases (resume-does h p (deeper cases 0) r m.run.local cases)

    go : (mode : Mode) → Does m.run.local.own (turn_in P m.cases m.run mode).run.local.own (IsEnding mode m.cases) (asked_in mode m.run.local ≡ Some View)
    go (At p) = visits-do P m.cases p.goals p.variables m.run
    go (Back r) = outward r m.cases

apart : {b : Bool} → b ≡ true → b ≡ false → ⊥
apart holds fails = never (sym holds ∙ fails)
  where
    never : true ≡ false → ⊥
    never is = cc

pub opens-with-view : OpensWithView
opens-with-view P m closed open_now = go (turn-does P m)
  where
    go : Does m.run.local.own (turn P m).run.local.own (IsEnding m.mode m.cases) (wanted m ≡ Some View) → wanted m ≡ Some View
    go (Same is) = absurd (apart open_now (is ∙ closed))
    go (Opens view is) = view
    go (Closes at is) = absurd (apart open_now (is closed))

pub closes-at-its-end : ClosesAtItsEnd
closes-at-its-end P m open_now closed = go (turn-does P m)
  where
    go : Does m.run.local.own (turn P m).run.local.own (IsEnding m.mode m.cases) (wanted m ≡ Some View) → IsEnding m.mode m.cases
    go (Same is) = absurd (apart open_now (sym is ∙ closed))
    go (Opens view is) = absurd (apart is closed)
    go (Closes at is) = at

pub ruleset laws = (opens-with-view, closes-at-its-end)
