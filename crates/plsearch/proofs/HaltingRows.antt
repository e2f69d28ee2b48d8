-- What the rows of the search make of lists that end the run by no other way than by asking for it.
use Rattle.std.proofs.Common.{◌≡◌, ℕ, suc, ◌+◌, Bool, true, false, List, [], ◌∷◌, map, length, Option, Some, None, refl, nat_eq, if◌then◌else◌}
use Rattle.std.specs.Prelude.{codes}
use Rattle.std.specs.List.{filter_map, cons_option}
use Rattle.std.specs.Option.{option_map}
use Rattle.plterm.specs.Tree.{Tree, var, int, atom, compound}
use Rattle.plterm.specs.Variables.{copied}
use Rattle.plterm.specs.declared.indicator.Indicator.{Indicator}
use Rattle.plsubst.specs.Subst.{bind, shift}
use Rattle.plsubst.specs.Unify.{unify}
use Rattle.plclause.specs.Clause.{Clause}
use Rattle.plclause.specs.Clausal.{clausal}
use Rattle.plclause.specs.Indicators.{indicator}
use Rattle.plclause.specs.Named.{named_terms, indicator_of}
use Rattle.plclause.specs.declared.form.ClauseForm.{ClauseForm}
use Rattle.plclause.specs.declared.form.ClauseForm.TheVariants.{NoHead, BadHead, BadBody, IsClause}
use Rattle.plevent.specs.declared.request.Request.{Request}
use Rattle.plevent.specs.declared.request.Reply.{Reply}
use Rattle.plevent.specs.declared.update.Living.{Living}
use Rattle.plevent.specs.declared.update.Update.{Update}
use Rattle.plevent.specs.declared.update.Update.TheVariants.{Declare}
use Rattle.plevent.specs.Alive.{Stamped, or_else, exists, living, clauses_alive}
use Rattle.plevent.specs.Search.{Answer, Seen, Got}
use Rattle.pltx.specs.Own.{all_made, any_open, begun}
use Rattle.pltx.specs.declared.level.Isolation.{Isolation}
use Rattle.plnames.specs.declared.kind.Side.{Side}
use Rattle.plprogram.specs.Program.{Program, clauses_for}
use Rattle.plprogram.specs.declared.settings.Unknown.{Unknown}
use Rattle.plprogram.specs.declared.settings.Unknown.TheVariants as unknown
use Rattle.plerror.specs.Errors.{type_error}
use Rattle.plbuiltin.specs.Lists.{may_be_list}
use Rattle.plbuiltin.specs.Solution.{Solution, Solved, Gives, Raises as Refuses}
use Rattle.plbuiltin.specs.Solutions.{solutions}
use Rattle.plsearch.specs.Types.{Result, Fail, CutTo, Throw, Halted, Awaits, Commit, Never, Until, Collect, Transact, Then, GoesOn, Ends, Lookup, ToCall, ToRetrieve, ToRetract, ToRetractAll, Look, Begin, Await, Erase, Element, Goal, Marker, Raise, Asking, Resolvent, Case, Choice, Mark, Handle, Handler, Catch, Gather, Undo, Return, Keep, Again, Anew, Local, Move, Give, Go}
use Rattle.plsearch.specs.Lists.{bind_element, bind_goals}
use Rattle.plsearch.specs.Forms.{Form, True, False, Both, Either, IfThenElse, Not, Once, Catching, FindAll, Within, Throwing, CallWith, Cut, Halting, Adding, Retrieving, Retracting, RetractingAll, Declaring, BuiltIn, Call, NoGoal, form}
use Rattle.plsearch.specs.Running.{Runnable, Runs, Raises, runnable, called}
use Rattle.plsearch.specs.Moves.{is_true, before_rest, resolve, choose, call, raised, go_on, first_of, run, publishing, publish, beginner, undoing, opened}
use Rattle.plsearch.specs.Lookups.{clause_term, as_fact, missing, retract, all_erased, looked_up, seen, seek}
use Rattle.plsearch.specs.Rows.{once_1, not_1, catch_3, call_with, thrown, catching, finding, findall_3, gathering, branch, unless, unchangeable, added, add, no_head, no_body, unreadable, retrieving, halves, unerasable, undeclarable, halting, user, solved, taken, offered, offer, beginning, row, select}
use Rattle.plsearch.specs.Replies.{outcome, follows, answered}
use Rattle.plsearch.specs.Collecting.{copies_from, dropped, gathered}
use Rattle.plsearch.specs.Handlers.{has, recovers, met_by, goes_on, resume}
use Rattle.plsearch.specs.Engine.{stop_cut, mark}
use Rattle.plsearch.specs.Halts.{IsCommon}

-- what follows the request to end the run is that end, and behind a batch or an erasure the list goes on
abbrev pub IsProper : Element → Type 0
IsProper (Asking (Await (Request.Publish us) (Ends k))) = ⊥
IsProper (Asking (Await (Request.EraseOne x) (Ends k))) = ⊥
IsProper (Asking (Await (Request.HaltRun n) GoesOn)) = ⊥
IsProper (Asking (Await (Request.HaltRun n) (Ends k))) = k ≡ n
IsProper e = Unit {0}

abbrev pub AreProper : List Element → Type 0
AreProper [] = Unit {0}
AreProper (e ∷ es) = IsProper e × AreProper es

abbrev pub AllProper : List Resolvent → Type 0
AllProper [] = Unit {0}
AllProper (p ∷ ps) = AreProper p.goals × AllProper ps

abbrev pub CaseIsProper : Case → Type 0
CaseIsProper (Choice ps) = AllProper ps
CaseIsProper (Mark l) = Unit {0}
CaseIsProper (Handle h p) = AreProper p.goals

abbrev pub AreProperCases : List Case → Type 0
AreProperCases [] = Unit {0}
AreProperCases (c ∷ cs) = CaseIsProper c × AreProperCases cs

-- a result that does not end the run, and asks nothing
abbrev pub IsOther : Result → Type 0
IsOther (Halted n) = ⊥
IsOther (Awaits q) = ⊥
IsOther r = Unit {0}

abbrev pub MoveFits : Move → Type 0
MoveFits (Give r w) = IsOther r
MoveFits (Go cs p w) = AreProperCases cs × AreProper p.goals

element_bound : (σ : ℕ → Tree) (e : Element) → IsProper e → IsProper (bind_element σ e)
element_bound σ (Goal k t) p = tt
element_bound σ (Marker m l) p = tt
element_bound σ (Raise b) p = tt
element_bound σ (Asking (Look u)) p = tt
element_bound σ (Asking (Begin i g)) p = tt
element_bound σ (Asking (Await q next)) p = p
element_bound σ (Asking (Erase x)) p = tt

bound : (σ : ℕ → Tree) (es : List Element) → AreProper es → AreProper (bind_goals σ es)
bound σ [] p = tt
bound σ (e ∷ es) p = (element_bound σ e p.0, bound σ es p.1)

before : (b : Bool) (d : ℕ) (t : Tree) (es : List Element) → AreProper es → AreProper (before_rest b d t es)
before true d t es p = p
before false d t es p = (tt, p)

-- the table's rows
resolved_first : (d n : ℕ) (t : Tree) (rest : List Element) → AreProper rest → (c : Clause) (ps : List Resolvent) → AllProper ps → AllProper (cons_option (resolve d n t rest c) ps)
resolved_first d n t rest proper c ps all = go (unify t (shift n c.head))
  where
    go : (o : Option (ℕ → Tree)) → AllProper (cons_option (option_map (λ σ. record { goals = before_rest (is_true c.body) d (bind σ (shift n c.body)) (bind_goals σ rest); variables = n + c.variables }) o) ps)
    go None = all
    go (Some σ) = (before (is_true c.body) d (bind σ (shift n c.body)) (bind_goals σ rest) (bound σ rest proper), all)

resolved : (d n : ℕ) (t : Tree) (rest : List Element) → AreProper rest → (cs : List Clause) → AllProper (filter_map (resolve d n t rest) cs)
resolved d n t rest proper [] = tt
resolved d n t rest proper (c ∷ cs) = resolved_first d n t rest proper c (filter_map (resolve d n t rest) cs) (resolved d n t rest proper cs)

retracted : (d n : ℕ) (t : Tree) (rest : List Element) → AreProper rest → (xs : List Living) → AllProper (filter_map (retract d n t rest) xs)
retracted d n t rest proper [] = tt
retracted d n t rest proper (x ∷ xs) =
    resolved_first d n t (Asking (Erase x.name) ∷ rest) (tt, proper) (as_fact x.clause) (filter_map (retract d n t rest) xs) (retracted d n t rest proper xs)

solutions_fit : (rest : List Element) (n : ℕ) → AreProper rest → (ss : List Solution) → AllProper (filter_map (solved rest n) ss)
solutions_fit rest n proper [] = tt
solutions_fit rest n proper (s ∷ ss) = go (unify s.left s.right) (solutions_fit rest n proper ss)
  where
    go : (o : Option (ℕ → Tree)) → AllProper (filter_map (solved rest n) ss) →
        AllProper (cons_option (option_map (λ σ. record { goals = bind_goals σ rest; variables = n + s.new }) o) (filter_map (solved rest n) ss))
    go None all = all
    go (Some σ) all = (bound σ rest proper, all)

choose_fits : (ps : List Resolvent) (w : Local) → AllProper ps → MoveFits (choose ps w)
choose_fits [] w all = tt
choose_fits (p ∷ ps) w all = ((all.1, tt), all.0)

raised_fits : (e : Tree) (p : Indicator) (es : List Element) (w : Local) → MoveFits (raised e p es w)
unfolding raised
raised_fits e p es w = tt

first_proper : (r : Runnable) (p : Indicator) (k : ℕ) → IsProper (first_of r p k)
first_proper (Runs b) p k = tt
first_proper (Raises e) p k = tt

run_fits : (r : Runnable) (p : Indicator) (cs : List Case) (k : ℕ) (rest : List Element) (n : ℕ) (w : Local) → AreProperCases cs → AreProper rest → MoveFits (run r p cs k rest n w)
run_fits r p cs k rest n w cases proper = ((tt, cases), (first_proper r p k, proper))

thrown_fits : (b : Tree) (rest : List Element) (w : Local) → MoveFits (thrown b rest w)
thrown_fits (var x) rest w = raised_fits _ _ rest w
thrown_fits (int i) rest w = tt
thrown_fits (atom f) rest w = tt
thrown_fits (compound f ts) rest w = tt

halting_fits : (t : Tree) (rest : List Element) (n : ℕ) (w : Local) → AreProper rest → MoveFits (halting t rest n w)
halting_fits (var x) rest n w proper = raised_fits _ _ rest w
halting_fits (int i) rest n w proper = (tt, (refl, proper))
halting_fits (atom f) rest n w proper = raised_fits _ _ rest w
halting_fits (compound f ts) rest n w proper = raised_fits _ _ rest w

pub publishing-proper : (us : List Update) (rest : List Element) → AreProper rest → AreProper (publishing us rest)
publishing-proper [] rest proper = proper
publishing-proper (u ∷ us) rest proper = (tt, proper)

publish_fits : (us : List Update) (rest : List Element) (n : ℕ) (w : Local) → AreProper rest → MoveFits (publish us rest n w)
publish_fits us rest n w proper = go (any_open w.own)
  where
    go : (b : Bool) → MoveFits (if b then go_on rest n (record w { own = all_made us w.own }) else go_on (publishing us rest) n w)
    go true = (tt, proper)
    go false = (tt, publishing-proper us rest proper)

unless_fits : (o : Option Tree) (p : Indicator) (rest : List Element) (w : Local) (m : Move) → MoveFits m → MoveFits (unless o p rest w m)
unless_fits None p rest w m fits = fits
unless_fits (Some e) p rest w m fits = raised_fits e p rest w

add_fits : (P : Program) (side : Side) (p : Indicator) (f : ClauseForm) (rest : List Element) (n : ℕ) (w : Local) → AreProper rest → MoveFits (add P side p f rest n w)
add_fits P side p NoHead rest n w proper = raised_fits _ _ rest w
add_fits P side p (BadHead h) rest n w proper = raised_fits _ _ rest w
add_fits P side p (BadBody b) rest n w proper = raised_fits _ _ rest w
add_fits P side p (IsClause c) rest n w proper = unless_fits (unchangeable P (indicator c.head)) p rest w _ (publish_fits (added side c ∷ []) rest n w proper)

missing_fits : (u : Unknown) (t : Tree) (rest : List Element) (w : Local) → MoveFits (missing u t rest w)
missing_fits unknown.Error t rest w = raised_fits _ _ rest w
missing_fits unknown.Fail t rest w = tt

looked_fits : (us : List Stamped) (u : Lookup) (d : ℕ) (rest : List Element) (n : ℕ) (w : Local) → AreProper rest → MoveFits (looked_up us u d rest n w)
looked_fits us (ToRetrieve h b) d rest n w proper =
    choose_fits (filter_map (resolve d n (clause_term h b) rest) (map as_fact (clauses_alive us (indicator h)))) w (resolved d n (clause_term h b) rest proper (map as_fact (clauses_alive us (indicator h))))
looked_fits us (ToRetract h b) d rest n w proper =
    choose_fits (filter_map (retract d n (clause_term h b) rest) (living us (indicator h))) w (retracted d n (clause_term h b) rest proper (living us (indicator h)))
looked_fits us (ToRetractAll h) d rest n w proper = publish_fits (all_erased us n h) rest n w proper
looked_fits us (ToCall t) d rest n w proper = go (exists us (indicator t))
  where
    go : (b : Bool) → MoveFits (if b then call d n t rest (clauses_alive us (indicator t)) w else missing w.settings.unknown t rest w)
    go true = choose_fits (filter_map (resolve d n t rest) (clauses_alive us (indicator t))) w (resolved d n t rest proper (clauses_alive us (indicator t)))
    go false = missing_fits w.settings.unknown t rest w

seek_fits : (below : List Stamped) (u : Lookup) (d : ℕ) (rest : List Element) (n : ℕ) (w : Local) → AreProper rest → MoveFits (seek below u d rest n w)
seek_fits below u d rest n w proper = go (any_open w.own)
  where
    go : (b : Bool) → MoveFits (if b then looked_up (seen below w.own) u d rest n w else go_on (Asking (Look u) ∷ rest) n w)
    go true = looked_fits (seen below w.own) u d rest n w proper
    go false = (tt, (tt, proper))

retrieving_fits : (below : List Stamped) (cs : List Clause) (d : ℕ) (h b : Tree) (rest : List Element) (n : ℕ) (w : Local) → AreProper rest → MoveFits (retrieving below cs d h b rest n w)
retrieving_fits below [] d h b rest n w proper = seek_fits below (ToRetrieve h b) d rest n w proper
retrieving_fits below (c ∷ cs) d h b rest n w proper =
    choose_fits (filter_map (resolve d n (clause_term h b) rest) (map as_fact (c ∷ cs))) w (resolved d n (clause_term h b) rest proper (map as_fact (c ∷ cs)))

user_fits : (below : List Stamped) (cs : List Clause) (d : ℕ) (t : Tree) (rest : List Element) (n : ℕ) (w : Local) → AreProper rest → MoveFits (user below cs d t rest n w)
user_fits below [] d t rest n w proper = seek_fits below (ToCall t) d rest n w proper
user_fits below (c ∷ cs) d t rest n w proper = choose_fits (filter_map (resolve d n t rest) (c ∷ cs)) w (resolved d n t rest proper (c ∷ cs))

offered_fits : (ss : List Solution) (rest : List Element) (n : ℕ) (w : Local) → AreProper rest → MoveFits (offered ss rest n w)
offered_fits [] rest n w proper = tt
offered_fits (s ∷ []) rest n w proper = go (unify s.left s.right)
  where
    go : (o : Option (ℕ → Tree)) → MoveFits (taken (option_map (λ σ. record { goals = bind_goals σ rest; variables = n + s.new }) o) w)
    go None = tt
    go (Some σ) = (tt, bound σ rest proper)
offered_fits (s ∷ r ∷ ss) rest n w proper = choose_fits (filter_map (solved rest n) (s ∷ r ∷ ss)) w (solutions_fit rest n proper (s ∷ r ∷ ss))

offer_fits : (s : Solved) (p : Indicator) (rest : List Element) (n : ℕ) (w : Local) → AreProper rest → MoveFits (offer s p rest n w)
offer_fits (Refuses e) p rest n w proper = raised_fits _ _ rest w
offer_fits (Gives ss bytes settings) p rest n w proper = offered_fits ss rest n _ proper

finding_fits : (a g l : Tree) (d : ℕ) (rest : List Element) (n : ℕ) (w : Local) → AreProper rest → MoveFits (finding a g l d rest n w)
finding_fits a g l d rest n w proper = go (may_be_list l)
  where
    go : (b : Bool) → MoveFits (if b then run (runnable g) findall_3 (gathering l rest n ∷ []) (suc d) (Marker (Collect a) d ∷ rest) n w else raised (type_error (codes "list") l) findall_3 rest w)
    go true = run_fits (runnable g) findall_3 (gathering l rest n ∷ []) (suc d) (Marker (Collect a) d ∷ rest) n w (proper, tt) (tt, proper)
    go false = raised_fits _ _ rest w

opened_fits : (i : Isolation) (b : ℕ) (g : Tree) (d : ℕ) (rest : List Element) (n : ℕ) (w : Local) → AreProper rest → MoveFits (opened i b g d rest n w)
opened_fits i b g d rest n w proper =
    run_fits (runnable g) (beginner i) (undoing rest n ∷ Choice [] ∷ []) (suc (suc d)) (Marker (Transact d) (suc d) ∷ rest) n (record w { own = begun i b w.own }) (proper, (tt, tt)) (tt, proper)

beginning_fits : (i : Isolation) (g : Tree) (d : ℕ) (rest : List Element) (n : ℕ) (w : Local) → AreProper rest → MoveFits (beginning i g d rest n w)
beginning_fits i g d rest n w proper = go (any_open w.own)
  where
    go : (b : Bool) → MoveFits (if b then opened i w.own.base g d rest n w else go_on (Asking (Begin i g) ∷ rest) n w)
    go true = opened_fits i w.own.base g d rest n w proper
    go false = (tt, (tt, proper))

row_fits : (P : Program) (below : List Stamped) (f : Form) (k : ℕ) (t : Tree) (d : ℕ) (rest : List Element) (n : ℕ) (w : Local) → AreProper rest → MoveFits (row P below f k t d rest n w)
unfolding row
row_fits P below True k t d rest n w proper = (tt, proper)
row_fits P below False k t d rest n w proper = tt
row_fits P below (Both a b) k t d rest n w proper = (tt, (tt, (tt, proper)))
row_fits P below (Either a b) k t d rest n w proper = ((((tt, proper), tt), tt), (tt, proper))
row_fits P below (IfThenElse c a e) k t d rest n w proper = ((tt, (((tt, proper), tt), tt)), (tt, (tt, (tt, proper))))
row_fits P below (Not g) k t d rest n w proper = run_fits (runnable g) not_1 (branch rest n ∷ []) (suc d) (Marker Never d ∷ rest) n w ((proper, tt), tt) (tt, proper)
row_fits P below (Catching g c r) k t d rest n w proper = run_fits (runnable g) catch_3 (catching c r rest n ∷ []) (suc d) (Marker Until d ∷ rest) n w (proper, tt) (tt, proper)
row_fits P below (FindAll a g l) k t d rest n w proper = finding_fits a g l d rest n w proper
row_fits P below (Within i g) k t d rest n w proper = beginning_fits i g d rest n w proper
row_fits P below (Throwing b) k t d rest n w proper = thrown_fits b rest w
row_fits P below (Once g) k t d rest n w proper = run_fits (runnable g) once_1 [] d (Marker Commit d ∷ rest) n w tt (tt, proper)
row_fits P below (CallWith g us) k t d rest n w proper = run_fits (called g us) (call_with (length us)) [] d rest n w tt proper
row_fits P below Cut k t d rest n w proper = ((tt, tt), proper)
row_fits P below (Halting i) k t d rest n w proper = halting_fits i rest n w proper
row_fits P below (Adding side c) k t d rest n w proper = add_fits P side (indicator t) (clausal c) rest n w proper
row_fits P below (Retrieving h b) k t d rest n w proper =
    unless_fits (or_else (no_head h) (or_else (no_body b) (unreadable (indicator h)))) (indicator t) rest w _ (retrieving_fits below (clauses_for P (indicator h)) d h b rest n w proper)
row_fits P below (Retracting c) k t d rest n w proper = unless_fits (unerasable P (halves c).0) (indicator t) rest w _ (seek_fits below (ToRetract (halves c).0 (halves c).1) d rest n w proper)
row_fits P below (RetractingAll h) k t d rest n w proper = unless_fits (unerasable P h) (indicator t) rest w _ (seek_fits below (ToRetractAll h) d rest n w proper)
row_fits P below (Declaring ps) k t d rest n w proper =
    unless_fits (undeclarable P (named_terms ps)) (indicator t) rest w _ (publish_fits (map Declare (filter_map indicator_of (named_terms ps))) rest n w proper)
row_fits P below (BuiltIn b us) k t d rest n w proper = offer_fits (solutions b us w.settings n) (indicator t) rest n w proper
row_fits P below (Call p) k t d rest n w proper = user_fits below (clauses_for P p) d t rest n w proper
row_fits P below NoGoal k t d rest n w proper = tt

pub select-fits : (P : Program) (below : List Stamped) (k : ℕ) (t : Tree) (d : ℕ) (rest : List Element) (n : ℕ) (w : Local) → AreProper rest → MoveFits (select P below k t d rest n w)
unfolding select
select-fits P below k t d rest n w proper = row_fits P below (form t) k t d rest n w proper

-- a reply by which nothing ends the run
reply_fits : (q : Request) (next : Then) (r : Reply) (rest : List Element) (n : ℕ) (w : Local) → IsProper (Asking (Await q next)) → IsCommon (Got r) → AreProper rest → MoveFits (follows (outcome q r) next rest n w)
reply_fits (Request.Publish us) GoesOn Reply.Published rest n w p common proper = (tt, proper)
reply_fits (Request.EraseOne x) GoesOn Reply.Erased rest n w p common proper = (tt, proper)
reply_fits (Request.EraseOne x) (Ends k) Reply.Erased rest n w p common proper = absurd p
reply_fits (Request.EraseOne x) next Reply.Gone rest n w p common proper = tt
reply_fits (Request.EraseOne x) next Reply.Published rest n w p common proper = tt
reply_fits (Request.Publish us) next Reply.Erased rest n w p common proper = tt
reply_fits (Request.Publish us) next Reply.Gone rest n w p common proper = tt
reply_fits Request.Start next Reply.Erased rest n w p common proper = tt
reply_fits Request.Start next Reply.Gone rest n w p common proper = tt
reply_fits (Request.Finish e) next Reply.Erased rest n w p common proper = tt
reply_fits (Request.Finish e) next Reply.Gone rest n w p common proper = tt
reply_fits (Request.HaltRun k) next Reply.Erased rest n w p common proper = tt
reply_fits Request.Leave next Reply.Erased rest n w p common proper = tt
reply_fits (Request.HaltRun k) next Reply.Gone rest n w p common proper = tt
reply_fits Request.Leave next Reply.Gone rest n w p common proper = tt
reply_fits (Request.Publish us) (Ends k) Reply.Published rest n w p common proper = absurd p
reply_fits Request.Start next Reply.Published rest n w p common proper = tt
reply_fits (Request.Finish e) next Reply.Published rest n w p common proper = tt
reply_fits (Request.HaltRun k) next Reply.Published rest n w p common proper = tt
reply_fits Request.Leave next Reply.Published rest n w p common proper = tt
reply_fits q next (Reply.Started i a g) rest n w p common proper = absurd common
reply_fits q next Reply.RunOver rest n w p common proper = absurd common
reply_fits q next Reply.Stopped rest n w p common proper = absurd common
reply_fits q next (Reply.NotYet x) rest n w p common proper = absurd common
reply_fits q next Reply.Done rest n w p common proper = absurd common
reply_fits q next Reply.Shut rest n w p common proper = absurd common

pub answered-fits : (e : Element) (a : Answer) (d : ℕ) (rest : List Element) (n : ℕ) (w : Local) → IsProper e → IsCommon a → AreProper rest → MoveFits (answered e a d rest n w)
unfolding answered
answered-fits (Asking (Look u)) (Seen g us) d rest n w p common proper = looked_fits us u d rest n w proper
answered-fits (Asking (Look u)) (Got r) d rest n w p common proper = tt
answered-fits (Asking (Begin i g)) (Seen v us) d rest n w p common proper = opened_fits i v g d rest n w proper
answered-fits (Asking (Begin i g)) (Got r) d rest n w p common proper = tt
answered-fits (Asking (Await q next)) (Seen g us) d rest n w p common proper = tt
answered-fits (Asking (Await q next)) (Got r) d rest n w p common proper = reply_fits q next r rest n w p common proper
answered-fits (Asking (Erase x)) (Seen g us) d rest n w p common proper = tt
answered-fits (Asking (Erase x)) (Got r) d rest n w p common proper = reply_fits (Request.EraseOne x) GoesOn r rest n w tt common proper
answered-fits (Goal k t) a d rest n w p common proper = tt
answered-fits (Marker m l) a d rest n w p common proper = tt
answered-fits (Raise b) a d rest n w p common proper = tt

-- what a handler makes of a result
abbrev pub ReturnFits : Return → Type 0
ReturnFits (Keep r w) = IsOther r
ReturnFits (Again p w) = AreProper p.goals
ReturnFits (Anew p w) = AreProper p.goals

recovers_fits : (x : Runnable) (d : ℕ) (es : List Element) (n : ℕ) (w : Local) → AreProper es → ReturnFits (recovers x d es n w)
recovers_fits (Runs g) d es n w proper = (tt, proper)
recovers_fits (Raises e) d es n w proper = tt

met_fits : (o : Option (ℕ → Tree)) (r b : Tree) (ls : List ℕ) (p : Resolvent) (d : ℕ) (w : Local) → AreProper p.goals → ReturnFits (met_by o r b ls p d w)
met_fits None r b ls p d w proper = tt
met_fits (Some σ) r b ls p d w proper = recovers_fits (runnable (bind σ r)) d (bind_goals σ p.goals) _ w (bound σ p.goals proper)

pub resume-fits : (h : Handler) (p : Resolvent) (d : ℕ) (r : Result) (w : Local) → AreProper p.goals → IsOther r → ReturnFits (resume h p d r w)
unfolding resume
resume-fits (Catch c r) p d (Throw b ls) w proper other = go (has d ls)
  where
    go : (x : Bool) → ReturnFits (if x then met_by (unify c (copied p.variables b)) r b ls p d w else Keep (Throw b ls) w)
    go true = met_fits (unify c (copied p.variables b)) r b ls p d w proper
    go false = tt
resume-fits (Catch c r) p d x w proper other = other
resume-fits (Gather l) p d Fail w proper other = goes (gathered l (copies_from d w.kept) p.variables)
  where
    goes : (s : Solution) → ReturnFits (goes_on (solved p.goals p.variables s) (dropped d w))
    goes s = from (unify s.left s.right)
      where
        from : (o : Option (ℕ → Tree)) → ReturnFits (goes_on (option_map (λ σ. record { goals = bind_goals σ p.goals; variables = p.variables + s.new }) o) (dropped d w))
        from None = tt
        from (Some σ) = bound σ p.goals proper
resume-fits (Gather l) p d x w proper other = other
resume-fits Undo p d Fail w proper other = tt
resume-fits Undo p d (Throw b ls) w proper other = tt
resume-fits Undo p d x w proper other = other

pub cut-other : (d : ℕ) (r : Result) → IsOther r → IsOther (stop_cut d r)
cut-other d (CutTo l) other = go (nat_eq l d)
  where
    go : (b : Bool) → IsOther (if b then Fail else CutTo l)
    go true = tt
    go false = tt
cut-other d r other = other

pub mark-other : (l : ℕ) (r : Result) → IsOther r → IsOther (mark l r)
mark-other l Fail other = tt
mark-other l r other = other
