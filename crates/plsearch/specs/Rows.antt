-- The table of control (ISO/IEC 13211-1 7.7, 7.8): one row for each form of goal and each element. No function here is recursive on goals.
use Rattle.std.specs.List.{list_any}
use Rattle.std.specs.Prelude.{Bool, List, None, Option, Some, [], codes, false, filter_map, find, if◌then◌else◌, is_some, length, map, negsuc, not, option_map, pos, suc, true, ℕ, ℤ, ◌%◌, ◌++◌, ◌+◌, ◌-◌, ◌||◌, ◌∷◌}
use Rattle.plterm.specs.Tree.{Tree, atom, compound, int, var}
use Rattle.plterm.specs.Variables.{copied}
use Rattle.plterm.specs.declared.indicator.Indicator.{Indicator}
use Rattle.plsubst.specs.Unify.{unify}
use Rattle.plclause.specs.Clausal.{clausal, neck_parts}
use Rattle.plclause.specs.Clause.{Clause}
use Rattle.plclause.specs.Indicators.{indicator}
use Rattle.plclause.specs.Named.{indicator_of, is_open, named_terms}
use Rattle.plclause.specs.declared.form.ClauseForm.TheVariants.{BadBody, BadHead, IsClause, NoHead}
use Rattle.plclause.specs.declared.form.ClauseForm.{ClauseForm}
use Rattle.plevent.specs.Alive.{Stamped, or_else}
use Rattle.plevent.specs.Search.{Ask, Item, View}
use Rattle.plevent.specs.declared.request.Request.TheVariants.{EraseOne, HaltRun}
use Rattle.plevent.specs.declared.update.ClauseName.{ClauseName}
use Rattle.plevent.specs.declared.update.Update.TheVariants.{Declare, Erase, First, Last}
use Rattle.plevent.specs.declared.update.Update.{Update}
use Rattle.pltx.specs.Own.{any_open, ended, ending, erased_in, made, target_at}
use Rattle.pltx.specs.declared.level.Ended.{Ended}
use Rattle.pltx.specs.declared.level.Isolation.{Isolation}
use Rattle.plnames.specs.Names.{is_fixed}
use Rattle.plnames.specs.declared.kind.Side.TheVariants as sides
use Rattle.plnames.specs.declared.kind.Side.{Side}
use Rattle.plprogram.specs.Program.{Program, clauses_for}
use Rattle.plerror.specs.Errors.{type_error, callable_error, instantiation_error, integer_error, naming_error, private_error, static_error}
use Rattle.plbuiltin.specs.Lists.{may_be_list}
use Rattle.plbuiltin.specs.Solution.{Gives, Solution, Solved}
use Rattle.plbuiltin.specs.Solution.{Raises as Refuses}
use Rattle.plbuiltin.specs.Solutions.{solutions}
use Rattle.plsearch.specs.Collecting.{collected}
use Rattle.plsearch.specs.Forms.{Adding, Both, BuiltIn, Call, CallWith, Catching, Cut, Declaring, Either, False, FindAll, Form, Halting, IfThenElse, NoGoal, Not, Once, Retracting, RetractingAll, Retrieving, Throwing, True, Within, form}
use Rattle.plsearch.specs.Lists.{bind_goals, levels}
use Rattle.plsearch.specs.Lookups.{retrieve, seek}
use Rattle.plsearch.specs.Moves.{call, choose, go_on, opened, publish, raised, run}
use Rattle.plsearch.specs.Running.{called, runnable}
use Rattle.plsearch.specs.Types.{Asking, Asks, Await, Begin, Case, Catch, Choice, Collect, Commit, CutTo, Element, End, Ends, Fail, Gather, Give, Go, Goal, Handle, Local, Look, Mark, Marked, Marker, Meeting, Move, Never, Pass, Resolvent, Question, Raise, Select, Throw, ToCall, ToRetract, ToRetractAll, ToRetrieve, Transact, Until}

abbrev pub once_1 : Indicator
once_1 = record { name = codes "once"; arity = 1 }

abbrev pub not_1 : Indicator
not_1 = record { name = codes "\\+"; arity = 1 }

abbrev pub catch_3 : Indicator
catch_3 = record { name = codes "catch"; arity = 3 }

abbrev pub findall_3 : Indicator
findall_3 = record { name = codes "findall"; arity = 3 }

abbrev pub throw_1 : Indicator
throw_1 = record { name = codes "throw"; arity = 1 }

-- call/N of a goal and N - 1 further arguments
abbrev pub call_with : ℕ → Indicator
call_with further = record { name = codes "call"; arity = suc further }

abbrev pub halt_1 : Indicator
halt_1 = record { name = codes "halt"; arity = 1 }

-- a term is thrown: a copy, its variables numbered from 0, with the levels of the markers of the list (7.8.10)
abbrev pub thrown : Tree → List Element → Local → Move
thrown (var x) rest w = raised instantiation_error throw_1 rest w
thrown t rest w = Give (Throw (copied 0 t) (levels rest)) w

-- a catcher and its recovery, at a list
abbrev pub catching : Tree → Tree → List Element → ℕ → Case
catching c r es n = Handle (Catch c r) (record { goals = es; variables = n })

-- the list of what is collected, at a list
abbrev pub gathering : Tree → List Element → ℕ → Case
gathering l es n = Handle (Gather l) (record { goals = es; variables = n })

-- a choice of one list
abbrev pub branch : List Element → ℕ → Case
branch es n = Choice (record { goals = es; variables = n } ∷ [])

abbrev pub some_of : List Clause → Bool
some_of [] = false
some_of (c ∷ cs) = true

-- control constructs, built-in predicates and the program's procedures are static
abbrev pub is_static : Program → Indicator → Bool
is_static P p = is_fixed p || some_of (clauses_for P p)

-- an error of the predicate p, if there is one, or else a move
abbrev pub unless : Option Tree → Indicator → List Element → Local → Move → Move
unless (Some e) p rest w m = raised e p rest w
unless None p rest w m = m

abbrev pub static_if : Bool → Indicator → Option Tree
static_if true p = Some (static_error p)
static_if false p = None

-- a procedure that cannot be changed
abbrev pub unchangeable : Program → Indicator → Option Tree
unchangeable P p = static_if (is_static P p) p

abbrev pub added : Side → Clause → Update
added sides.Front c = First c
added sides.Back c = Last c

-- a term is added as a clause by the predicate p, before or behind all others of its procedure (8.9.1, 8.9.2)
abbrev pub add : Program → Side → Indicator → ClauseForm → List Element → ℕ → Local → Move
add P side p NoHead rest n w = raised instantiation_error p rest w
add P side p (BadHead h) rest n w = raised (callable_error h) p rest w
add P side p (BadBody b) rest n w = raised (callable_error b) p rest w
add P side p (IsClause c) rest n w = unless (unchangeable P (indicator c.head)) p rest w (publish (added side c ∷ []) rest n w)

-- a head that is no atom or compound
abbrev pub no_head : Tree → Option Tree
no_head (var x) = Some instantiation_error
no_head (int i) = Some (callable_error (int i))
no_head (atom f) = None
no_head (compound f ts) = None

-- a body that no clause can have: a variable may stand for any
abbrev pub no_body : Tree → Option Tree
no_body (var x) = None
no_body (int i) = Some (callable_error (int i))
no_body (atom f) = None
no_body (compound f ts) = None

abbrev pub private_if : Bool → Indicator → Option Tree
private_if true p = Some (private_error p)
private_if false p = None

-- the clauses of control constructs and built-in predicates are not told
abbrev pub unreadable : Indicator → Option Tree
unreadable p = private_if (is_fixed p) p

-- clauses of the program's text need no view
abbrev pub retrieving : List Stamped → List Clause → ℕ → Tree → Tree → List Element → ℕ → Local → Move
retrieving below [] d h b rest n w = seek below (ToRetrieve h b) d rest n w
retrieving below (c ∷ cs) d h b rest n w = retrieve d n h b rest (c ∷ cs) w

-- a term as a head and a body: `Head :- Body`, or a head alone with the body true
abbrev pub halves_or : Tree → Option (Tree × Tree) → Tree × Tree
halves_or t None = (t, atom (codes "true"))
halves_or t (Some p) = p

abbrev pub halves : Tree → Tree × Tree
halves t = halves_or t (neck_parts t)

-- a head whose procedure can be changed
abbrev pub unerasable : Program → Tree → Option Tree
unerasable P h = or_else (no_head h) (unchangeable P (indicator h))

-- procedures are declared by the terms that name them: none of these is unknown, each is an indicator, and no procedure is static
abbrev pub undeclarable : Program → List Tree → Option Tree
undeclarable P ts =
    if list_any is_open ts then Some instantiation_error
    else or_else (option_map naming_error (find (λ t. not (is_some (indicator_of t))) ts)) (option_map static_error (find (is_static P) (filter_map indicator_of ts)))

-- an integer modulo 256, with the divisor's sign
abbrev pub modulo_256 : ℤ → ℕ
modulo_256 (pos n) = n % 256
modulo_256 (negsuc n) = 255 - n % 256

-- the run is ended with an integer modulo 256 as its status (8.17.2)
abbrev pub halting : Tree → List Element → ℕ → Local → Move
halting (var x) rest n w = raised instantiation_error halt_1 rest w
halting (int i) rest n w = go_on (Asking (Await (HaltRun (modulo_256 i)) (Ends (modulo_256 i))) ∷ rest) n w
halting t rest n w = raised (integer_error t) halt_1 rest w

-- a call of a procedure that is not static looks for its clauses in a view
abbrev pub user : List Stamped → List Clause → ℕ → Tree → List Element → ℕ → Local → Move
user below [] d t rest n w = seek below (ToCall t) d rest n w
user below (c ∷ cs) d t rest n w = call d n t rest (c ∷ cs) w

-- the unifier of a solution's sides is put into the list
abbrev pub solved : List Element → ℕ → Solution → Option Resolvent
solved rest n s = option_map (λ σ. record { goals = bind_goals σ rest; variables = n + s.new }) (unify s.left s.right)

abbrev pub taken : Option Resolvent → Local → Move
taken None w = Give Fail w
taken (Some p) w = Go [] p w

-- one solution opens no case; of more there is a choice of those that unify
abbrev pub offered : List Solution → List Element → ℕ → Local → Move
offered (s ∷ []) rest n w = taken (solved rest n s) w
offered ss rest n w = choose (filter_map (solved rest n) ss) w

-- what a built-in predicate p comes to: its error, or what it writes and sets, and its solutions
abbrev pub offer : Solved → Indicator → List Element → ℕ → Local → Move
offer (Refuses e) p rest n w = raised e p rest w
offer (Gives ss bytes settings) p rest n w = offered ss rest n (record w { out = w.out ++ bytes; settings = settings })

-- the solutions of a goal are collected (8.10.1): what is to be their list is looked at first
abbrev pub finding : Tree → Tree → Tree → ℕ → List Element → ℕ → Local → Move
finding t g l d rest n w =
    if may_be_list l then run (runnable g) findall_3 (gathering l rest n ∷ []) (suc d) (Marker (Collect t) d ∷ rest) n w
    else raised (type_error (codes "list") l) findall_3 rest w

-- a transaction or a snapshot begins at once inside of what is open, or else where its view is taken
abbrev pub beginning : Isolation → Tree → ℕ → List Element → ℕ → Local → Move
beginning i g d rest n w = if any_open w.own then opened i w.own.base g d rest n w else go_on (Asking (Begin i g) ∷ rest) n w

-- A goal that is selected, with its cut level k, at the depth d, where what is open began on some updates. The parts of a goal that is
-- selected are converted, so the condition of `->` is run as it stands, at a cut level of its own.
unfoldable pub row : Program → List Stamped → Form → ℕ → Tree → ℕ → List Element → ℕ → Local → Move
row P below True k t d rest n w = go_on rest n w
row P below False k t d rest n w = Give Fail w
row P below (Both a b) k t d rest n w = go_on (Goal k a ∷ Goal k b ∷ rest) n w
row P below (Either a b) k t d rest n w = Go (branch (Goal k b ∷ rest) n ∷ []) (record { goals = Goal k a ∷ rest; variables = n }) w
row P below (IfThenElse c a e) k t d rest n w = Go (Choice [] ∷ branch (Goal k e ∷ rest) n ∷ []) (record { goals = Goal (suc d) c ∷ Marker Commit d ∷ Goal k a ∷ rest; variables = n }) w
row P below (Not g) k t d rest n w = run (runnable g) not_1 (branch rest n ∷ []) (suc d) (Marker Never d ∷ rest) n w
row P below (Catching g c r) k t d rest n w = run (runnable g) catch_3 (catching c r rest n ∷ []) (suc d) (Marker Until d ∷ rest) n w
row P below (FindAll a g l) k t d rest n w = finding a g l d rest n w
row P below (Within i g) k t d rest n w = beginning i g d rest n w
row P below (Throwing b) k t d rest n w = thrown b rest w
row P below (Once g) k t d rest n w = run (runnable g) once_1 [] d (Marker Commit d ∷ rest) n w
row P below (CallWith g us) k t d rest n w = run (called g us) (call_with (length us)) [] d rest n w
row P below Cut k t d rest n w = Go (Mark k ∷ []) (record { goals = rest; variables = n }) w
row P below (Halting i) k t d rest n w = halting i rest n w
row P below (Adding side c) k t d rest n w = add P side (indicator t) (clausal c) rest n w
row P below (Retrieving h b) k t d rest n w = unless (or_else (no_head h) (or_else (no_body b) (unreadable (indicator h)))) (indicator t) rest w (retrieving below (clauses_for P (indicator h)) d h b rest n w)
row P below (Retracting c) k t d rest n w = unless (unerasable P (halves c).0) (indicator t) rest w (seek below (ToRetract (halves c).0 (halves c).1) d rest n w)
row P below (RetractingAll h) k t d rest n w = unless (unerasable P h) (indicator t) rest w (seek below (ToRetractAll h) d rest n w)
row P below (Declaring ps) k t d rest n w = unless (undeclarable P (named_terms ps)) (indicator t) rest w (publish (map Declare (filter_map indicator_of (named_terms ps))) rest n w)
row P below (BuiltIn b us) k t d rest n w = offer (solutions b us w.settings n) (indicator t) rest n w
row P below (Call p) k t d rest n w = user below (clauses_for P p) d t rest n w
row P below NoGoal k t d rest n w = Give Fail w

unfoldable pub select : Program → List Stamped → ℕ → Tree → ℕ → List Element → ℕ → Local → Move
unfolding row
select P below k t d rest n w = row P below (form t) k t d rest n w

abbrev pub asked : Question → Item
asked (Look u) = View
asked (Begin i g) = View
asked (Await q next) = Ask q
asked (Question.Erase x) = Ask (EraseOne x)

-- a clause is erased: of what is open at once, unless it was erased there before, or else by a request
abbrev pub erasing : ClauseName → Local → Meeting
erasing x w =
    if not (any_open w.own) then Asks (asked (Question.Erase x))
    else if erased_in (target_at w.own.base x) w.own.updates then End Fail w
    else Pass (record w { own = made (Erase x) w.own })

abbrev pub published : Ended → List Update
published Ended.Merged = []
published (Ended.Publish us) = us
published Ended.Nothing = []
published Ended.Dropped = []

-- what the head of a list is
unfoldable pub meet : Element → List Element → Local → Meeting
meet (Goal k t) rest w = Select k t
meet (Marker Commit l) rest w = Marked l [] w
meet (Marker Never l) rest w = End (CutTo l) w
meet (Marker Until l) rest w = Pass w
meet (Marker (Collect t) l) rest w = End Fail (collected l t w)
meet (Marker (Transact d) l) rest w = Marked d (published (ending true w.own)) (record w { own = ended true w.own })
meet (Raise b) rest w = End (Throw b (levels rest)) w
meet (Asking (Question.Erase x)) rest w = erasing x w
meet (Asking q) rest w = Asks (asked q)
