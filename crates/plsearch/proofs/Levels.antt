-- Levels of lists: what a goal that is selected and an answer make of a list names the levels that the list names, and its own.
use Rattle.std.specs.Prelude.{codes}
use Rattle.std.proofs.Common.{◌≡◌, ℕ, suc, ◌+◌, ◌≤◌, Bool, true, false, ◌||◌, if◌then◌else◌, List, [], ◌∷◌, length, map, Option, Some, None, refl, ap, arith, nat_eq}
use Rattle.std.proofs.lemmas.Bool.Decides.{nat_tests}
use Rattle.std.specs.List.{filter_map, cons_option}
use Rattle.std.specs.Option.{option_map}
use Rattle.plterm.specs.Tree.{Tree, var, int, atom, compound}
use Rattle.plterm.specs.Variables.{copied}
use Rattle.plsubst.specs.Subst.{bind, shift}
use Rattle.plsubst.specs.Unify.{unify}
use Rattle.plclause.specs.Clause.{Clause}
use Rattle.plclause.specs.Indicators.{indicator}
use Rattle.plclause.specs.Clausal.{clausal}
use Rattle.plclause.specs.declared.form.ClauseForm.{ClauseForm}
use Rattle.plclause.specs.declared.form.ClauseForm.TheVariants.{NoHead, BadHead, BadBody, IsClause}
use Rattle.plterm.specs.declared.indicator.Indicator.{Indicator}
use Rattle.plclause.specs.Named.{named_terms, indicator_of}
use Rattle.plevent.specs.declared.update.Living.{Living}
use Rattle.plevent.specs.declared.update.Update.{Update}
use Rattle.plevent.specs.declared.update.Update.TheVariants.{Declare}
use Rattle.plevent.specs.declared.request.Request.TheVariants.{EraseOne}
use Rattle.plevent.specs.Alive.{Stamped, or_else, exists, living, clauses_alive}
use Rattle.plnames.specs.declared.kind.Side.{Side}
use Rattle.plevent.specs.Search.{Answer, Seen, Got}
use Rattle.pltx.specs.Own.{all_made, any_open, begun}
use Rattle.pltx.specs.declared.level.Isolation.{Isolation}
use Rattle.plprogram.specs.Program.{Program, clauses_for}
use Rattle.plprogram.specs.declared.settings.Unknown.{Unknown}
use Rattle.plprogram.specs.declared.settings.Unknown.TheVariants as unknown
use Rattle.plerror.specs.Errors.{type_error, error_term}
use Rattle.plbuiltin.specs.Lists.{may_be_list}
use Rattle.plbuiltin.specs.Solution.{Solution, Solved, Gives, Raises as Refuses}
use Rattle.plbuiltin.specs.Solutions.{solutions}
use Rattle.plsearch.specs.Types.{Result, Stop, Fail, CutTo, Throw, Halted, Spent, Awaits, Stopped, Unfit, Kind, Commit, Never, Until, Collect, Transact, Then, GoesOn, Ends, Lookup, ToCall, ToRetrieve, ToRetract, ToRetractAll, Question, Look, Begin, Await, Erase, Element, Goal, Marker, Raise, Asking, Resolvent, Case, Choice, Mark, Handle, Local, Move, Give, Go}
use Rattle.plsearch.specs.Lists.{bind_kind, bind_element, bind_goals, levels}
use Rattle.plsearch.specs.Forms.{Form, True, False, Both, Either, IfThenElse, Not, Once, Catching, FindAll, Within, Throwing, CallWith, Cut, Halting, Adding, Retrieving, Retracting, RetractingAll, Declaring, BuiltIn, Call, NoGoal, form}
use Rattle.plsearch.specs.Running.{Runnable, Runs, Raises, runnable, called}
use Rattle.plsearch.specs.Moves.{is_true, before_rest, resolve, choose, call, raised, go_on, publishing, publish, first_of, run, beginner, undoing, opened}
use Rattle.plsearch.specs.Lookups.{clause_term, as_fact, missing, retract, all_erased, looked_up, seen, seek}
use Rattle.plsearch.specs.Rows.{finding, findall_3, gathering, beginning, call_with, branch, catching, thrown, halting, unless, unchangeable, added, add, no_head, no_body, unreadable, retrieving, halves, unerasable, undeclarable, user, solved, taken, offered, offer, row, select}
use Rattle.plsearch.specs.Replies.{Outcome, Served, Late, Stops, Misfits, outcome, follows, answered}
use Rattle.plsearch.specs.Engine.{deeper}

-- levels, as a test
abbrev pub Levels : Type 0
Levels = ℕ → Bool

-- these, and one more
abbrev pub also : Levels → ℕ → Levels
also C d l = C l || nat_eq l d

abbrev pub AllIn : Levels → List ℕ → Type 0
AllIn N [] = Unit {0}
AllIn N (l ∷ ls) = (N l ≡ true) × AllIn N ls

-- all levels from d on
abbrev pub Holds : Levels → ℕ → Type 0
Holds N d = (l : ℕ) → d ≤ l → N l ≡ true

-- a result that cuts to levels of C alone, and has levels of N alone behind its ball
unfoldable pub Bounded : Levels → Levels → Result → Type 0
Bounded C N Stop = Unit {0}
Bounded C N Fail = Unit {0}
Bounded C N (CutTo l) = C l ≡ true
Bounded C N (Throw b ls) = AllIn N ls
Bounded C N (Halted n) = Unit {0}
Bounded C N Spent = Unit {0}
Bounded C N (Awaits q) = Unit {0}
Bounded C N Stopped = Unit {0}
Bounded C N Unfit = Unit {0}

-- a marker behind which choices are given up has a level that may be cut to
unfoldable pub GivesUp : Levels → Kind → ℕ → Type 0
GivesUp C Commit l = C l ≡ true
GivesUp C Never l = C l ≡ true
GivesUp C Until l = Unit {0}
GivesUp C (Collect t) l = Unit {0}
GivesUp C (Transact d) l = C d ≡ true

unfoldable pub Allows : Levels → Levels → Element → Type 0
Allows C N (Goal k t) = C k ≡ true
Allows C N (Marker m l) = GivesUp C m l × (N l ≡ true)
Allows C N (Raise b) = Unit {0}
Allows C N (Asking q) = Unit {0}

unfoldable pub AllAllow : Levels → Levels → List Element → Type 0
AllAllow C N [] = Unit {0}
AllAllow C N (e ∷ es) = Allows C N e × AllAllow C N es

either-left : (a b : Bool) → a ≡ true → (a || b) ≡ true
either-left a b h = ap (λ x. x || b) h

either-right : (a b : Bool) → b ≡ true → (a || b) ≡ true
either-right true b h = refl
either-right false b h = h

same : (d : ℕ) → nat_eq d d ≡ true
same d = grind (arith, nat_tests)

pub also-it : (C : Levels) (d : ℕ) → also C d d ≡ true
also-it C d = either-right (C d) (nat_eq d d) (same d)

pub also-others : (C : Levels) (d l : ℕ) → C l ≡ true → also C d l ≡ true
also-others C d l h = either-left (C l) (nat_eq l d) h

gives-up-more : (C : Levels) (d : ℕ) (m : Kind) (l : ℕ) → GivesUp C m l → GivesUp (also C d) m l
unfolding GivesUp
gives-up-more C d Commit l h = also-others C d l h
gives-up-more C d Never l h = also-others C d l h
gives-up-more C d Until l h = tt
gives-up-more C d (Collect t) l h = tt
gives-up-more C d (Transact k) l h = also-others C d k h

allows-more : (C N : Levels) (d : ℕ) (e : Element) → Allows C N e → Allows (also C d) N e
unfolding Allows
allows-more C N d (Goal k t) h = also-others C d k h
allows-more C N d (Marker m l) h = (gives-up-more C d m l h.0, h.1)
allows-more C N d (Raise b) h = tt
allows-more C N d (Asking q) h = tt

pub allow-more : (C N : Levels) (d : ℕ) (es : List Element) → AllAllow C N es → AllAllow (also C d) N es
unfolding AllAllow
allow-more C N d [] h = tt
allow-more C N d (e ∷ es) h = (allows-more C N d e h.0, allow-more C N d es h.1)

gives-up-bound : (C : Levels) (σ : ℕ → Tree) (m : Kind) (l : ℕ) → GivesUp C m l → GivesUp C (bind_kind σ m) l
unfolding GivesUp
gives-up-bound C σ Commit l h = h
gives-up-bound C σ Never l h = h
gives-up-bound C σ Until l h = tt
gives-up-bound C σ (Collect t) l h = tt
gives-up-bound C σ (Transact d) l h = h

allows-bound : (C N : Levels) (σ : ℕ → Tree) (e : Element) → Allows C N e → Allows C N (bind_element σ e)
unfolding Allows
allows-bound C N σ (Goal k t) h = h
allows-bound C N σ (Marker m l) h = (gives-up-bound C σ m l h.0, h.1)
allows-bound C N σ (Raise b) h = tt
allows-bound C N σ (Asking q) h = tt

pub allow-bound : (C N : Levels) (σ : ℕ → Tree) (es : List Element) → AllAllow C N es → AllAllow C N (bind_goals σ es)
unfolding AllAllow
allow-bound C N σ [] h = tt
allow-bound C N σ (e ∷ es) h = (allows-bound C N σ e h.0, allow-bound C N σ es h.1)

pub levels-in : (C N : Levels) (es : List Element) → AllAllow C N es → AllIn N (levels es)
unfolding AllAllow Allows
levels-in C N [] h = tt
levels-in C N (Goal k t ∷ es) h = levels-in C N es h.1
levels-in C N (Marker m l ∷ es) h = (h.0.1, levels-in C N es h.1)
levels-in C N (Raise b ∷ es) h = levels-in C N es h.1
levels-in C N (Asking q ∷ es) h = levels-in C N es h.1

-- cases that are open at the depth d, of which the results cut to levels of C alone: what they hold, and what may come from inside
unfoldable pub PlacesAllow : Levels → Levels → List Resolvent → Type 0
PlacesAllow C N [] = Unit {0}
PlacesAllow C N (p ∷ ps) = AllAllow C N p.goals × PlacesAllow C N ps

abbrev pub inside : Levels → ℕ → Case → Levels
inside C d (Choice ps) = also C d
inside C d (Mark l) = C
inside C d (Handle h p) = C

unfoldable pub CaseAllows : Levels → Levels → ℕ → Case → Type 0
CaseAllows C N d (Choice ps) = PlacesAllow (also C d) N ps
CaseAllows C N d (Mark l) = C l ≡ true
CaseAllows C N d (Handle h p) = AllAllow C N p.goals

abbrev pub within : Levels → ℕ → List Case → Levels
within C d [] = C
within C d (c ∷ cs) = inside (within C d cs) (deeper cs d) c

unfoldable pub CasesAllow : Levels → Levels → ℕ → List Case → Type 0
CasesAllow C N d [] = Unit {0}
CasesAllow C N d (c ∷ cs) = CaseAllows (within C d cs) N (deeper cs d) c × CasesAllow C N d cs

unfoldable pub MoveAllows : Levels → Levels → ℕ → Move → Type 0
MoveAllows C N d (Give r w) = Bounded C N r
MoveAllows C N d (Go cs p w) = CasesAllow C N d cs × AllAllow (within C d cs) N p.goals

-- the table's rows
module _ (C N : Levels) (d : ℕ) (holds : Holds N d) where
  abbrev More : Levels
  More = also C d

  go-on : (es : List Element) (n : ℕ) (w : Local) → AllAllow C N es → MoveAllows C N d (go_on es n w)
  unfolding MoveAllows CasesAllow
  go-on es n w all = (tt, all)

  give-up : (w : Local) → MoveAllows C N d (Give Fail w)
  unfolding MoveAllows Bounded
  give-up w = tt

  stops : (w : Local) → MoveAllows C N d (Give Stopped w)
  unfolding MoveAllows Bounded
  stops w = tt

  misfits : (w : Local) → MoveAllows C N d (Give Unfit w)
  unfolding MoveAllows Bounded
  misfits w = tt

  -- one of two moves
  one-of : (b : Bool) (m m' : Move) → MoveAllows C N d m → MoveAllows C N d m' → MoveAllows C N d (if b then m else m')
  one-of true m m' h h' = h
  one-of false m m' h h' = h'

  asks-first : (q : Question) (rest : List Element) (n : ℕ) (w : Local) → AllAllow C N rest → MoveAllows C N d (go_on (Asking q ∷ rest) n w)
  unfolding AllAllow Allows
  asks-first q rest n w all = go-on (Asking q ∷ rest) n w (tt, all)

  halts : (n : ℕ) (w : Local) → MoveAllows C N d (Give (Halted n) w)
  unfolding MoveAllows Bounded
  halts n w = tt

  throws : (b : Tree) (rest : List Element) (w : Local) → AllAllow C N rest → MoveAllows C N d (Give (Throw b (levels rest)) w)
  unfolding MoveAllows Bounded
  throws b rest w all = levels-in C N rest all

  raises : (e : Tree) (p : Indicator) (rest : List Element) (w : Local) → AllAllow C N rest → MoveAllows C N d (raised e p rest w)
  unfolding raised
  raises e p rest w all = throws (copied 0 (error_term e p)) rest w all

  -- a list is visited in a choice at the level d
  in-choice : (ps : List Resolvent) (p : Resolvent) (w : Local) → PlacesAllow More N ps → AllAllow More N p.goals → MoveAllows C N d (Go (Choice ps ∷ []) p w)
  unfolding MoveAllows CasesAllow CaseAllows
  in-choice ps p w others first = ((others, tt), first)

  chooses : (ps : List Resolvent) (w : Local) → PlacesAllow More N ps → MoveAllows C N d (choose ps w)
  unfolding PlacesAllow
  chooses [] w all = give-up w
  chooses (p ∷ ps) w all = in-choice ps p w all.1 all.0

  body-allowed : (b : Bool) (t : Tree) (es : List Element) → AllAllow More N es → AllAllow More N (before_rest b d t es)
  unfolding AllAllow Allows
  body-allowed true t es all = all
  body-allowed false t es all = (also-it C d, all)

  place-allowed : (n : ℕ) (t : Tree) (rest : List Element) → AllAllow C N rest → (c : Clause) (ps : List Resolvent) → PlacesAllow More N ps → PlacesAllow More N (cons_option (resolve d n t rest c) ps)
  unfolding PlacesAllow
  place-allowed n t rest all c ps others = go (unify t (shift n c.head))
    where
      go : (o : Option (ℕ → Tree)) →
          PlacesAllow More N (cons_option (option_map (λ σ. record { goals = before_rest (is_true c.body) d (bind σ (shift n c.body)) (bind_goals σ rest); variables = n + c.variables }) o) ps)
      go None = others
      go (Some σ) = (body-allowed (is_true c.body) (bind σ (shift n c.body)) (bind_goals σ rest) (allow-more C N d (bind_goals σ rest) (allow-bound C N σ rest all)), others)

  none-allowed : PlacesAllow More N []
  unfolding PlacesAllow
  none-allowed = tt

  places-allowed : (n : ℕ) (t : Tree) (rest : List Element) → AllAllow C N rest → (cs : List Clause) → PlacesAllow More N (filter_map (resolve d n t rest) cs)
  places-allowed n t rest all [] = none-allowed
  places-allowed n t rest all (c ∷ cs) = place-allowed n t rest all c (filter_map (resolve d n t rest) cs) (places-allowed n t rest all cs)

  calls : (n : ℕ) (t : Tree) (rest : List Element) (cs : List Clause) (w : Local) → AllAllow C N rest → MoveAllows C N d (call d n t rest cs w)
  calls n t rest cs w all = chooses (filter_map (resolve d n t rest) cs) w (places-allowed n t rest all cs)

  -- a term is run at a level of its own, in a choice there
  first-allowed : (r : Runnable) (p : Indicator) (D : Levels) (k : ℕ) (rest : List Element) → D k ≡ true → AllAllow D N rest → AllAllow D N (first_of r p k ∷ rest)
  unfolding AllAllow Allows
  first-allowed (Runs b) p D k rest is all = (is, all)
  first-allowed (Raises e) p D k rest is all = (tt, all)

  runs : (r : Runnable) (p : Indicator) (rest : List Element) (n : ℕ) (w : Local) → AllAllow More N rest → MoveAllows C N d (run r p [] d rest n w)
  unfolding PlacesAllow
  runs r p rest n w all = in-choice [] (record { goals = first_of r p d ∷ rest; variables = n }) w (nothing-left More) (first-allowed r p More d rest (also-it C d) all)
    where
      nothing-left : (D : Levels) → PlacesAllow D N []
      nothing-left D = tt

  -- a list in a choice inside of a branch at the level d, and in one inside of a catcher
  in-branch : (list : List Element) (es : List Element) (n : ℕ) (w : Local) → AllAllow C N list → AllAllow (also More (suc d)) N es →
      MoveAllows C N d (Go (Choice [] ∷ branch list n ∷ []) (record { goals = es; variables = n }) w)
  unfolding MoveAllows CasesAllow CaseAllows PlacesAllow
  in-branch list es n w other all = ((tt, ((allow-more C N d list other, tt), tt)), all)

  in-catcher : (c r : Tree) (list : List Element) (es : List Element) (n : ℕ) (w : Local) → AllAllow C N list → AllAllow (also C (suc d)) N es →
      MoveAllows C N d (Go (Choice [] ∷ catching c r list n ∷ []) (record { goals = es; variables = n }) w)
  unfolding MoveAllows CasesAllow CaseAllows PlacesAllow
  in-catcher c r list es n w other all = ((tt, (other, tt)), all)

  in-gatherer : (l : Tree) (list : List Element) (es : List Element) (n : ℕ) (w : Local) → AllAllow C N list → AllAllow (also C (suc d)) N es →
      MoveAllows C N d (Go (Choice [] ∷ gathering l list n ∷ []) (record { goals = es; variables = n }) w)
  unfolding MoveAllows CasesAllow CaseAllows PlacesAllow
  in-gatherer l list es n w other all = ((tt, (other, tt)), all)

  thrown-allowed : (b : Tree) (rest : List Element) (w : Local) → AllAllow C N rest → MoveAllows C N d (thrown b rest w)
  thrown-allowed (var x) rest w all = raises _ _ rest w all
  thrown-allowed (int i) rest w all = throws (copied 0 (int i)) rest w all
  thrown-allowed (atom f) rest w all = throws (copied 0 (atom f)) rest w all
  thrown-allowed (compound f ts) rest w all = throws (copied 0 (compound f ts)) rest w all

  halting-allowed : (t : Tree) (rest : List Element) (n : ℕ) (w : Local) → AllAllow C N rest → MoveAllows C N d (halting t rest n w)
  halting-allowed (var x) rest n w all = raises _ _ rest w all
  halting-allowed (int i) rest n w all = asks-first _ rest n w all
  halting-allowed (atom f) rest n w all = raises _ _ rest w all
  halting-allowed (compound f ts) rest n w all = raises _ _ rest w all

  -- the predicates on clauses
  publish-allowed : (us : List Update) (rest : List Element) (n : ℕ) (w : Local) → AllAllow C N rest → MoveAllows C N d (publish us rest n w)
  publish-allowed us rest n w all = one-of (any_open w.own) (go_on rest n (record w { own = all_made us w.own })) _ (go-on rest n _ all) (asks us)
    where
      asks : (us : List Update) → MoveAllows C N d (go_on (publishing us rest) n w)
      asks [] = go-on rest n w all
      asks (u ∷ us) = asks-first _ rest n w all

  unless-allowed : (o : Option Tree) (p : Indicator) (rest : List Element) (w : Local) (m : Move) → AllAllow C N rest → MoveAllows C N d m → MoveAllows C N d (unless o p rest w m)
  unless-allowed None p rest w m all other = other
  unless-allowed (Some e) p rest w m all other = raises e p rest w all

  add-allowed : (P : Program) (side : Side) (p : Indicator) (c : ClauseForm) (rest : List Element) (n : ℕ) (w : Local) → AllAllow C N rest → MoveAllows C N d (add P side p c rest n w)
  add-allowed P side p NoHead rest n w all = raises _ _ rest w all
  add-allowed P side p (BadHead h) rest n w all = raises _ _ rest w all
  add-allowed P side p (BadBody b) rest n w all = raises _ _ rest w all
  add-allowed P side p (IsClause c) rest n w all = unless-allowed (unchangeable P (indicator c.head)) p rest w _ all (publish-allowed (added side c ∷ []) rest n w all)

  retracts-allowed : (n : ℕ) (t : Tree) (rest : List Element) → AllAllow C N rest → (xs : List Living) → PlacesAllow More N (filter_map (retract d n t rest) xs)
  unfolding AllAllow Allows
  retracts-allowed n t rest all [] = none-allowed
  retracts-allowed n t rest all (x ∷ xs) =
      place-allowed n t (Asking (Erase x.name) ∷ rest) (tt, all) (as_fact x.clause) (filter_map (retract d n t rest) xs) (retracts-allowed n t rest all xs)

  missing-allowed : (u : Unknown) (t : Tree) (rest : List Element) (w : Local) → AllAllow C N rest → MoveAllows C N d (missing u t rest w)
  missing-allowed unknown.Error t rest w all = raises _ _ rest w all
  missing-allowed unknown.Fail t rest w all = give-up w

  looked-up-allowed : (us : List Stamped) (u : Lookup) (rest : List Element) (n : ℕ) (w : Local) → AllAllow C N rest → MoveAllows C N d (looked_up us u d rest n w)
  looked-up-allowed us (ToCall t) rest n w all =
      one-of (exists us (indicator t)) (call d n t rest (clauses_alive us (indicator t)) w) _ (calls n t rest (clauses_alive us (indicator t)) w all) (missing-allowed w.settings.unknown t rest w all)
  looked-up-allowed us (ToRetrieve h b) rest n w all = calls n (clause_term h b) rest (map as_fact (clauses_alive us (indicator h))) w all
  looked-up-allowed us (ToRetract h b) rest n w all =
      chooses (filter_map (retract d n (clause_term h b) rest) (living us (indicator h))) w (retracts-allowed n (clause_term h b) rest all (living us (indicator h)))
  looked-up-allowed us (ToRetractAll h) rest n w all = publish-allowed (all_erased us n h) rest n w all

  seek-allowed : (below : List Stamped) (u : Lookup) (rest : List Element) (n : ℕ) (w : Local) → AllAllow C N rest → MoveAllows C N d (seek below u d rest n w)
  seek-allowed below u rest n w all =
      one-of (any_open w.own) (looked_up (seen below w.own) u d rest n w) _ (looked-up-allowed (seen below w.own) u rest n w all) (asks-first (Look u) rest n w all)

  retrieving-allowed : (below : List Stamped) (cs : List Clause) (h b : Tree) (rest : List Element) (n : ℕ) (w : Local) → AllAllow C N rest →
      MoveAllows C N d (retrieving below cs d h b rest n w)
  retrieving-allowed below [] h b rest n w all = seek-allowed below (ToRetrieve h b) rest n w all
  retrieving-allowed below (c ∷ cs) h b rest n w all = calls n (clause_term h b) rest (map as_fact (c ∷ cs)) w all

  user-allowed : (below : List Stamped) (cs : List Clause) (t : Tree) (rest : List Element) (n : ℕ) (w : Local) → AllAllow C N rest → MoveAllows C N d (user below cs d t rest n w)
  user-allowed below [] t rest n w all = seek-allowed below (ToCall t) rest n w all
  user-allowed below (c ∷ cs) t rest n w all = calls n t rest (c ∷ cs) w all

  -- the solutions of a built-in predicate
  taken-allowed : (o : Option (ℕ → Tree)) (rest : List Element) (n m : ℕ) (w : Local) → AllAllow C N rest →
      MoveAllows C N d (taken (option_map (λ σ. record { goals = bind_goals σ rest; variables = n + m }) o) w)
  taken-allowed None rest n m w all = give-up w
  taken-allowed (Some σ) rest n m w all = go-on (bind_goals σ rest) (n + m) w (allow-bound C N σ rest all)

  solutions-allowed : (rest : List Element) (n : ℕ) → AllAllow C N rest → (ss : List Solution) → PlacesAllow More N (filter_map (solved rest n) ss)
  unfolding PlacesAllow
  solutions-allowed rest n all [] = tt
  solutions-allowed rest n all (s ∷ ss) = go (unify s.left s.right) (solutions-allowed rest n all ss)
    where
      go : (o : Option (ℕ → Tree)) → PlacesAllow More N (filter_map (solved rest n) ss) →
          PlacesAllow More N (cons_option (option_map (λ σ. record { goals = bind_goals σ rest; variables = n + s.new }) o) (filter_map (solved rest n) ss))
      go None others = others
      go (Some σ) others = (allow-more C N d (bind_goals σ rest) (allow-bound C N σ rest all), others)

  offered-allowed : (ss : List Solution) (rest : List Element) (n : ℕ) (w : Local) → AllAllow C N rest → MoveAllows C N d (offered ss rest n w)
  offered-allowed [] rest n w all = give-up w
  offered-allowed (s ∷ []) rest n w all = taken-allowed (unify s.left s.right) rest n s.new w all
  offered-allowed (s ∷ t ∷ ss) rest n w all = chooses (filter_map (solved rest n) (s ∷ t ∷ ss)) w (solutions-allowed rest n all (s ∷ t ∷ ss))

  offer-allowed : (x : Solved) (p : Indicator) (rest : List Element) (n : ℕ) (w : Local) → AllAllow C N rest → MoveAllows C N d (offer x p rest n w)
  offer-allowed (Refuses e) p rest n w all = raises e p rest w all
  offer-allowed (Gives ss bytes settings) p rest n w all = offered-allowed ss rest n _ all

  finding-allowed : (t g l : Tree) (rest : List Element) (n : ℕ) (w : Local) → AllAllow C N rest → MoveAllows C N d (finding t g l d rest n w)
  unfolding AllAllow Allows GivesUp
  finding-allowed t g l rest n w all =
      one-of (may_be_list l) _ (raised (type_error (codes "list") l) findall_3 rest w)
      (in-gatherer l rest (first_of (runnable g) _ (suc d) ∷ Marker (Collect t) d ∷ rest) n w all
      (first-allowed (runnable g) _ (also C (suc d)) (suc d) (Marker (Collect t) d ∷ rest) (also-it C (suc d)) ((tt, holds d (omega arith)), allow-more C N (suc d) rest all)))
      (raises _ _ rest w all)

  -- a transaction or a snapshot begins
  in-undoing : (list : List Element) (es : List Element) (n : ℕ) (w : Local) → AllAllow More N list → AllAllow (also More (suc (suc d))) N es →
      MoveAllows C N d (Go (Choice [] ∷ undoing list n ∷ Choice [] ∷ []) (record { goals = es; variables = n }) w)
  unfolding MoveAllows CasesAllow CaseAllows PlacesAllow
  in-undoing list es n w other all = ((tt, (other, (tt, tt))), all)

  opened-allowed : (i : Isolation) (b : ℕ) (g : Tree) (rest : List Element) (n : ℕ) (w : Local) → AllAllow C N rest → MoveAllows C N d (opened i b g d rest n w)
  unfolding AllAllow Allows GivesUp
  opened-allowed i b g rest n w all =
      let far = suc (suc d) in
      in-undoing rest (first_of (runnable g) (beginner i) far ∷ Marker (Transact d) (suc d) ∷ rest) n (record w { own = begun i b w.own }) (allow-more C N d rest all)
      (first-allowed (runnable g) (beginner i) (also More far) far (Marker (Transact d) (suc d) ∷ rest) (also-it More far)
      ((also-others More far d (also-it C d), holds (suc d) (omega arith)), allow-more More N far rest (allow-more C N d rest all)))

  beginning-allowed : (i : Isolation) (g : Tree) (rest : List Element) (n : ℕ) (w : Local) → AllAllow C N rest → MoveAllows C N d (beginning i g d rest n w)
  beginning-allowed i g rest n w all =
      one-of (any_open w.own) (opened i w.own.base g d rest n w) _ (opened-allowed i w.own.base g rest n w all) (asks-first (Begin i g) rest n w all)

  row-allowed : (P : Program) (below : List Stamped) (c : Form) (k : ℕ) (t : Tree) (rest : List Element) (n : ℕ) (w : Local) → C k ≡ true → AllAllow C N rest →
      MoveAllows C N d (row P below c k t d rest n w)
  unfolding row AllAllow Allows GivesUp PlacesAllow MoveAllows CasesAllow CaseAllows
  row-allowed P below True k t rest n w is all = go-on rest n w all
  row-allowed P below False k t rest n w is all = give-up w
  row-allowed P below (Both a b) k t rest n w is all = go-on (Goal k a ∷ Goal k b ∷ rest) n w (is, (is, all))
  row-allowed P below (Either a b) k t rest n w is all =
      in-choice (record { goals = Goal k b ∷ rest; variables = n } ∷ []) (record { goals = Goal k a ∷ rest; variables = n }) w (one (Goal k b ∷ rest) n (allow-more C N d (Goal k b ∷ rest) (is, all))) (allow-more C N d (Goal k a ∷ rest) (is, all))
    where
      one : (es : List Element) (n : ℕ) → AllAllow More N es → PlacesAllow More N (record { goals = es; variables = n } ∷ [])
      one es n all = (all, tt)
  row-allowed P below (IfThenElse c a e) k t rest n w is all =
      in-branch (Goal k e ∷ rest) (Goal (suc d) c ∷ Marker Commit d ∷ Goal k a ∷ rest) n w (is, all)
      (also-it More (suc d), ((also-others More (suc d) d (also-it C d), holds d (omega arith)), allow-more More N (suc d) (Goal k a ∷ rest) (allow-more C N d (Goal k a ∷ rest) (is, all))))
  row-allowed P below (Not g) k t rest n w is all =
      in-branch rest (first_of (runnable g) _ (suc d) ∷ Marker Never d ∷ rest) n w all
      (first-allowed (runnable g) _ (also More (suc d)) (suc d) (Marker Never d ∷ rest) (also-it More (suc d)) ((also-others More (suc d) d (also-it C d), holds d (omega arith)), allow-more More N (suc d) rest (allow-more C N d rest all)))
  row-allowed P below (Catching g c r) k t rest n w is all =
      in-catcher c r rest (first_of (runnable g) _ (suc d) ∷ Marker Until d ∷ rest) n w all
      (first-allowed (runnable g) _ (also C (suc d)) (suc d) (Marker Until d ∷ rest) (also-it C (suc d)) ((tt, holds d (omega arith)), allow-more C N (suc d) rest all))
  row-allowed P below (FindAll a g l) k t rest n w is all = finding-allowed a g l rest n w all
  row-allowed P below (Within i g) k t rest n w is all = beginning-allowed i g rest n w all
  row-allowed P below (Throwing b) k t rest n w is all = thrown-allowed b rest w all
  row-allowed P below (Once g) k t rest n w is all = runs (runnable g) _ (Marker Commit d ∷ rest) n w ((also-it C d, holds d (omega arith)), allow-more C N d rest all)
  row-allowed P below (CallWith g us) k t rest n w is all = runs (called g us) (call_with (length us)) rest n w (allow-more C N d rest all)
  row-allowed P below Cut k t rest n w is all = marks k rest n w is all
    where
      marks : (k : ℕ) (rest : List Element) (n : ℕ) (w : Local) → C k ≡ true → AllAllow C N rest → MoveAllows C N d (Go (Mark k ∷ []) (record { goals = rest; variables = n }) w)
      marks k rest n w is all = ((is, tt), all)
  row-allowed P below (Halting i) k t rest n w is all = halting-allowed i rest n w all
  row-allowed P below (Adding side c) k t rest n w is all = add-allowed P side (indicator t) (clausal c) rest n w all
  row-allowed P below (Retrieving h b) k t rest n w is all =
      unless-allowed (or_else (no_head h) (or_else (no_body b) (unreadable (indicator h)))) (indicator t) rest w _ all (retrieving-allowed below (clauses_for P (indicator h)) h b rest n w all)
  row-allowed P below (Retracting c) k t rest n w is all = unless-allowed (unerasable P (halves c).0) (indicator t) rest w _ all (seek-allowed below (ToRetract (halves c).0 (halves c).1) rest n w all)
  row-allowed P below (RetractingAll h) k t rest n w is all = unless-allowed (unerasable P h) (indicator t) rest w _ all (seek-allowed below (ToRetractAll h) rest n w all)
  row-allowed P below (Declaring ps) k t rest n w is all =
      unless-allowed (undeclarable P (named_terms ps)) (indicator t) rest w _ all (publish-allowed (map Declare (filter_map indicator_of (named_terms ps))) rest n w all)
  row-allowed P below (BuiltIn b us) k t rest n w is all = offer-allowed (solutions b us w.settings n) (indicator t) rest n w all
  row-allowed P below (Call p) k t rest n w is all = user-allowed below (clauses_for P p) t rest n w all
  row-allowed P below NoGoal k t rest n w is all = give-up w

  pub select-allowed : (P : Program) (below : List Stamped) (k : ℕ) (t : Tree) (rest : List Element) (n : ℕ) (w : Local) → C k ≡ true → AllAllow C N rest →
      MoveAllows C N d (select P below k t d rest n w)
  unfolding select
  select-allowed P below k t rest n w is all = row-allowed P below (form t) k t rest n w is all

  follows-allowed : (o : Outcome) (t : Then) (rest : List Element) (n : ℕ) (w : Local) → AllAllow C N rest → MoveAllows C N d (follows o t rest n w)
  follows-allowed Served GoesOn rest n w all = go-on rest n w all
  follows-allowed Served (Ends k) rest n w all = halts k w
  follows-allowed Late t rest n w all = give-up w
  follows-allowed Stops t rest n w all = stops w
  follows-allowed Misfits t rest n w all = misfits w

  pub answered-allowed : (e : Element) (a : Answer) (rest : List Element) (n : ℕ) (w : Local) → AllAllow C N rest → MoveAllows C N d (answered e a d rest n w)
  unfolding answered
  answered-allowed (Asking (Look u)) (Seen g us) rest n w all = looked-up-allowed us u rest n w all
  answered-allowed (Asking (Begin i g)) (Seen v us) rest n w all = opened-allowed i v g rest n w all
  answered-allowed (Asking (Await q t)) (Got r) rest n w all = follows-allowed (outcome q r) t rest n w all
  answered-allowed (Asking (Erase x)) (Got r) rest n w all = follows-allowed (outcome (EraseOne x) r) GoesOn rest n w all
  answered-allowed e a rest n w all = misfits w
