-- What a machine stands for.
use Rattle.std.specs.Prelude.{◌≡◌, ◌≤◌, ℕ, Bool, true, false, List, [], ◌∷◌, ◌++◌, filter, length, map, reverse, Option, Some, None}
use Rattle.std.specs.Bool.{⊤}
use Rattle.plterm.specs.Tree.{Tree, var, int, atom, compound, Trees, more}
use Rattle.plterm.specs.declared.indicator.Indicator.{Indicator}
use Rattle.plcells.specs.Store.{Store, value, IsValue}
use Rattle.plclause.specs.Indicators.{indicator}
use Rattle.plevent.specs.Alive.{Stamped, exists, named, names_of}
use Rattle.plevent.specs.Search.{Answer, Seen, Ending}
use Rattle.plevent.specs.declared.request.Request.{Request}
use Rattle.plevent.specs.declared.request.Request.TheVariants.{Publish, HaltRun}
use Rattle.plevent.specs.declared.update.Living.{Living}
use Rattle.plevent.specs.declared.update.Update.{Update}
use Rattle.plevent.specs.declared.update.Update.TheVariants.{Erase, Declare}
use Rattle.plstore.specs.Looking.{Views}
use Rattle.pltx.specs.Own.{any_open}
use Rattle.pltx.specs.Own.{State as Own}
use Rattle.plviews.specs.Lookups.{rest_at}
use Rattle.plviews.specs.Views.{seen_in, sight_in, AreOrdered, Sight}
use Rattle.plviews.specs.declared.view.View.{View}
use Rattle.plprogram.specs.Program.{Program}
use Rattle.plsearch.specs.Types.{Result, Stop, Fail, Throw, Halted, Spent, Element, Asking, Lookup, ToCall, ToRetrieve, ToRetract, ToRetractAll, Question, Look, Begin, Await, GoesOn, Ends, Case, Local, Move, Supply}
use Rattle.plsearch.specs.Types.{Then as Following}
use Rattle.plsearch.specs.Lookups.{clause_term, has_head}
use Rattle.plsearch.specs.Moves.{publish}
use Rattle.plsearch.specs.Machines.Machine.{Mode, At, Back, Machine, Rest, move}
use Rattle.plsearch.specs.Search.{ending_of}
use Rattle.plcode.specs.Callees.{IsProgramCode}
use Rattle.plstack.specs.Basis.{IsShown}
use Rattle.plstack.specs.Levels.{AreNamed}
use Rattle.plstack.specs.Places.{head_told, onward, Database}
use Rattle.plstack.specs.State.{State, cases_of, depth_in, goals_of, walks_in, EndsWalks, IsFit}
use Rattle.plstack.specs.StaticCalls.{database_of}
use Rattle.plstack.specs.declared.frame.Use.{Use}
use Rattle.plstack.specs.declared.frame.Use.TheVariants as uses
use Rattle.plmachine.specs.declared.machine.Outcome.{Outcome}
use Rattle.plmachine.specs.declared.machine.Outcome.TheVariants as outcomes
use Rattle.plmachine.specs.declared.machine.Then.{Then}
use Rattle.plmachine.specs.declared.machine.Then.TheVariants as thens
use Rattle.plmachine.specs.declared.machine.Lookup.{Lookup as Sought}
use Rattle.plmachine.specs.declared.machine.Lookup.TheVariants as lookups
use Rattle.plmachine.specs.declared.machine.Question.{Question as Asked}
use Rattle.plmachine.specs.declared.machine.Question.TheVariants as questions
use Rattle.plmachine.specs.declared.machine.SweepSpot.{SweepSpot}
use Rattle.plmachine.specs.declared.machine.SweepSpot.TheVariants as spots
use Rattle.plmachine.specs.declared.machine.Sweep.{Sweep}
use Rattle.plmachine.specs.declared.machine.Find.{Find}
use Rattle.plmachine.specs.declared.machine.Find.TheVariants as finds
use Rattle.plmachine.specs.declared.machine.Mode.{Mode as Going}
use Rattle.plmachine.specs.declared.machine.Mode.TheVariants as modes
use Rattle.plmachine.specs.declared.machine.Machine.{Machine as Reached}

abbrev pub result_of : Outcome → Result
result_of outcomes.Stop = Stop
result_of outcomes.Fail = Fail
result_of (outcomes.Throw t ls) = Throw t ls.items
result_of (outcomes.Halted n) = Halted n
result_of outcomes.Spent = Spent

abbrev pub then_of : Then → Following
then_of thens.GoesOn = GoesOn
then_of (thens.Ends n) = Ends n

abbrev pub lookup_of : Store → Sought → Lookup
lookup_of h (lookups.ToCall v) = ToCall (value h v)
lookup_of h (lookups.ToRetrieve v w) = ToRetrieve (value h v) (value h w)
lookup_of h (lookups.ToRetract v w) = ToRetract (value h v) (value h w)
lookup_of h (lookups.ToRetractAll v) = ToRetractAll (value h v)

abbrev pub question_of : Store → Asked → Question
question_of h (questions.Look u) = Look (lookup_of h u)
question_of h (questions.Begin i v) = Begin i (value h v)
question_of h (questions.Await q next) = Await q (then_of next)
question_of h (questions.Erase x) = Question.Erase x

-- the element that asks
abbrev pub element_of : Store → Asked → Element
element_of h q = Asking (question_of h q)

-- some elements before the visited list, as a place
abbrev pub place_behind : State → List Element → Mode
place_behind s es = At (record { goals = es; variables = s.env.count })

abbrev pub mode_of : Going → State → Mode
mode_of modes.Visit s = place_behind s (goals_of s s.goals)
mode_of (modes.Ask q) s = place_behind s (element_of s.env.heap q ∷ goals_of s s.goals)
mode_of (modes.Find f) s = place_behind s (goals_of s s.goals)
mode_of (modes.Back r) s = Back (result_of r)

-- nothing is sought
abbrev pub IsPlain : Going → Type 0
IsPlain modes.Visit = ⊤
IsPlain (modes.Ask q) = ⊤
IsPlain (modes.Find f) = ⊥
IsPlain (modes.Back r) = ⊤

-- a result is carried after which nothing is visited any more
abbrev pub IsFinal : Outcome → Type 0
IsFinal outcomes.Stop = ⊤
IsFinal outcomes.Fail = ⊥
IsFinal (outcomes.Throw t ls) = ⊥
IsFinal (outcomes.Halted n) = ⊤
IsFinal outcomes.Spent = ⊤

abbrev pub IsLast : Going → Type 0
IsLast modes.Visit = ⊥
IsLast (modes.Ask q) = ⊥
IsLast (modes.Find f) = ⊥
IsLast (modes.Back r) = IsFinal r

-- a view in which a procedure has no clause, and exists or not
abbrev pub bare : Bool → Indicator → List Stamped
bare true p = record { at = named 0 0; update = Declare p } ∷ []
bare false p = []

-- the clauses of a procedure that are still to be looked through
abbrev pub to_sweep : Sight → Indicator → SweepSpot → List Living
to_sweep s p (spots.Seek r) = rest_at s p r
to_sweep s p (spots.At x r) = onward s p x r

-- the erasures of a sweep over the clauses of the head h, where n variables are in use
abbrev pub swept : Sight → ℕ → Tree → Sweep → List Update
swept s n h w = w.updates.items ++ map Erase (names_of (filter (has_head n h) (to_sweep s (indicator h) w.spot)))

-- what a goal's clauses are looked up for, by what is done with one that fits: it is the term of a head and a body, or is called
abbrev pub body_or : Tree → Trees → Tree
body_or t (more h (more b ts)) = b
body_or t ts = t

abbrev pub body_told : Tree → Tree
body_told (compound f ts) = body_or (compound f ts) ts
body_told t = t

abbrev pub lookup_by : Use → Tree → Lookup
lookup_by uses.Call t = ToCall t
lookup_by uses.Tell t = ToRetrieve (head_told t) (body_told t)
lookup_by uses.Erase t = ToRetract (head_told t) (body_told t)

abbrev pub IsTold : Use → Tree → Type 0
IsTold uses.Call t = ⊤
IsTold uses.Tell t = clause_term (head_told t) (body_told t) ≡ t
IsTold uses.Erase t = clause_term (head_told t) (body_told t) ≡ t

abbrev pub local_of : Reached → Local
local_of s = record { who = record { number = s.thread; alias = s.alias }; out = s.out.items; settings = s.settings; kept = s.kept; own = s.layer.own }

-- the updates below the place at which the outermost transaction or snapshot began last
abbrev pub below_at : Views → Option ℕ → List Stamped
below_at v None = []
below_at v (Some g) = v g

abbrev pub below_in : Views → Reached → List Stamped
below_in v s = below_at v s.layer.place

abbrev pub run_in : Views → ℕ → List Answer → Reached → Supply
run_in v left answers s = record { steps = left; answers = answers; below = below_in v s; local = local_of s }

abbrev pub cases_in : Program → Views → Reached → List Case
cases_in P v s = cases_of (database_of P v s.layer.own.updates) s.stack

-- a look-up before the visited list, whose answer comes next
abbrev pub looking : Program → Views → ℕ → List Answer → Reached → Lookup → Answer → Machine
looking P v left answers s u a = record {
  mode = place_behind s.stack (Asking (Look u) ∷ goals_of s.stack s.stack.goals);
  cases = cases_in P v s;
  run = run_in v left (a ∷ answers) s;
}

-- what is sought is a look-up that was answered with its view; and what is swept is erased before the visited list
abbrev pub finding : Program → Views → ℕ → List Answer → Reached → Find → Machine
finding P v left answers s (finds.First x g) = looking P v left answers s (lookup_by x.uses (value s.stack.env.heap x.goal)) (Seen g.place (seen_in v s.layer.own.updates g))
finding P v left answers s (finds.Exists c g) =
    looking P v left answers s (ToCall (value s.stack.env.heap c))
    (Seen g.place (bare (exists (seen_in v s.layer.own.updates g) (indicator (value s.stack.env.heap c))) (indicator (value s.stack.env.heap c))))
finding P v left answers s (finds.All c g) = looking P v left answers s (ToRetractAll (value s.stack.env.heap c)) (Seen g.place (seen_in v s.layer.own.updates g))
finding P v left answers s (finds.Sweep c w) =
    move (cases_in P v s) (run_in v left answers s)
    (publish (swept (sight_in v s.layer.own.updates w.view) s.stack.env.count (value s.stack.env.heap c) w) (goals_of s.stack s.stack.goals) s.stack.env.count (local_of s))

-- the machine of the definition, where the views are these, with so many steps and these answers left
abbrev pub machine_in : Program → Views → ℕ → List Answer → Reached → Going → Machine
machine_in P v left answers s (modes.Find f) = finding P v left answers s f
machine_in P v left answers s m = record {
  mode = mode_of m s.stack;
  cases = cases_in P v s;
  run = run_in v left answers s;
}

unfoldable pub machine : Program → Views → ℕ → List Answer → Reached → Machine
machine P v left answers s = machine_in P v left answers s s.mode

-- how many cases are open
abbrev pub depth_of : Reached → ℕ
depth_of s = depth_in s.stack

-- what the search ends with from here, and after a move
abbrev pub now : Program → Views → Reached → ℕ → ℕ → List Answer → Ending
now P v s most left answers = ending_of most (Rest P (machine P v left answers s))

abbrev pub after : Program → Views → Reached → ℕ → ℕ → List Answer → Move → Ending
after P v s most left answers m = ending_of most (Rest P (move (cases_in P v s) (run_in v left answers s) m))

-- its code is that of the program
abbrev pub IsBegun : Program → Reached → Type 0
IsBegun P s = IsProgramCode P s.stack.basis.code

-- what follows a request is what it is for
abbrev pub IsFollowed : Request → Then → Type 0
IsFollowed (Publish us) thens.GoesOn = ⊤
IsFollowed (HaltRun n) (thens.Ends m) = n ≡ m
IsFollowed q next = ⊥

-- the values of what clauses are looked up for are there
abbrev pub IsSought : Store → Sought → Type 0
IsSought h (lookups.ToCall v) = IsValue h v
IsSought h (lookups.ToRetrieve v w) = IsValue h v × IsValue h w
IsSought h (lookups.ToRetract v w) = IsValue h v × IsValue h w
IsSought h (lookups.ToRetractAll v) = IsValue h v

abbrev pub IsClosed : Own → Type 0
IsClosed own = any_open own ≡ false

-- the values of what is asked are there; and no view is asked where something is open. The list behind a view fits
abbrev pub IsAskable : Own → State → Asked → Type 0
IsAskable own s (questions.Look u) = IsClosed own × IsSought s.env.heap u × IsFit s s.goals
IsAskable own s (questions.Begin i v) = IsClosed own × IsValue s.env.heap v × IsFit s s.goals
IsAskable own s (questions.Await q next) = IsFollowed q next
IsAskable own s (questions.Erase x) = ⊤

-- a walk may see the view, it shows no more own updates than there are, and where something is open it is of the place at which that began
pub record IsViewed (own : Own) (s : State) (g : View) : Type 0 where
  pub shown : IsShown g s.basis.latest
  pub count : g.count ≤ length own.updates
  pub base : any_open own ≡ true → g.place ≡ own.base

-- the values of what is sought are there, and it is sought in a view that may be seen
abbrev pub IsFound : Own → State → Find → Type 0
IsFound own s (finds.First x g) = IsValue s.env.heap x.goal × IsTold x.uses (value s.env.heap x.goal) × IsViewed own s g
IsFound own s (finds.Exists c g) = IsValue s.env.heap c × IsViewed own s g
IsFound own s (finds.All c g) = IsValue s.env.heap c × IsViewed own s g
IsFound own s (finds.Sweep c w) = IsValue s.env.heap c × IsViewed own s w.view

-- where something is asked or sought, it can be
abbrev pub MayAsk : Own → State → Going → Type 0
MayAsk own s modes.Visit = ⊤
MayAsk own s (modes.Ask q) = IsAskable own s q
MayAsk own s (modes.Find f) = IsFound own s f × IsFit s s.goals
MayAsk own s (modes.Back r) = ⊤

-- a ball that is carried is for each Undo among the open cases
abbrev pub IsCarried : State → Outcome → Type 0
IsCarried s outcomes.Stop = ⊤
IsCarried s outcomes.Fail = ⊤
IsCarried s (outcomes.Throw t ls) = (db : Database) → AreNamed ls.items (cases_of db s)
IsCarried s (outcomes.Halted n) = ⊤
IsCarried s outcomes.Spent = ⊤

abbrev pub MayCarry : State → Going → Type 0
MayCarry s modes.Visit = ⊤
MayCarry s (modes.Ask q) = ⊤
MayCarry s (modes.Find f) = ⊤
MayCarry s (modes.Back r) = IsCarried s r

-- The own updates are tied to the open cases: what is open began with as many as the cases say, innermost first; no walk sees more than there
-- are; while something is open no walk sees another place than that at which it began; and there were none at the start of the outermost.
pub record IsTied (s : Reached) : Type 0 where
  pub starts : reverse s.stack.basis.starts ≡ map (λ l. l.start) s.layer.own.levels
  pub count : s.stack.basis.latest.count ≤ length s.layer.own.updates
  pub base : any_open s.layer.own ≡ true → s.stack.basis.latest.place ≡ s.layer.own.base
  pub closed : IsClosed s.layer.own → s.stack.basis.latest.count ≡ 0
  pub outer : (k : ℕ) (ks : List ℕ) → s.stack.basis.starts ≡ k ∷ ks → k ≡ 0

-- what is asked can be, a ball is for each Undo, and own updates are tied to the cases, unless a last result is carried
pub record IsMachine (s : Reached) : Type 0 where
  pub tied : (IsLast s.mode → ⊥) → IsTied s
  pub askable : MayAsk s.layer.own s.stack s.mode
  pub carry : MayCarry s.stack s.mode

-- a look-up at its beginning: a sweep is one whose procedure was found to exist
abbrev pub IsFirstOf : Find → Type 0
IsFirstOf (finds.First x g) = ⊤
IsFirstOf (finds.Exists c g) = ⊤
IsFirstOf (finds.All c g) = ⊤
IsFirstOf (finds.Sweep c w) = ⊥

-- what is sought, if anything, is at its beginning
abbrev pub SeeksAnew : Going → Type 0
SeeksAnew modes.Visit = ⊤
SeeksAnew (modes.Ask q) = ⊤
SeeksAnew (modes.Find f) = IsFirstOf f
SeeksAnew (modes.Back r) = ⊤

-- it made a move, by the views; it takes no view itself
pub record MovedBy (P : Program) (old new : Reached) (m : Views → Move) : Type 0 where
  pub code : new.stack.basis.code ≡ old.stack.basis.code
  pub latest : new.stack.basis.latest.place ≡ old.stack.basis.latest.place
  pub place : new.layer.place ≡ old.layer.place
  pub walks : EndsWalks old.stack new.stack
  pub seeks : SeeksAnew new.mode
  pub tied : IsTied old → IsTied new
  pub askable : MayAsk new.layer.own new.stack new.mode
  pub carry : MayCarry new.stack new.mode
  pub ends : (v : Views) → AreOrdered v → (most left : ℕ) (answers : List Answer) → after P v old most left answers (m v) ≡ now P v new most left answers

-- it made a move that no view has a part in
pub record Moved (P : Program) (old new : Reached) (m : Move) : Type 0 where
  pub plain : IsPlain new.mode
  pub moved : MovedBy P old new (λ v. m)

-- it stands where it stood
pub record Stays (P : Program) (old new : Reached) : Type 0 where
  pub basis : new.stack.basis ≡ old.stack.basis
  pub layer : new.layer ≡ old.layer
  pub mode : IsPlain old.mode → new.mode ≡ old.mode
  pub walks : walks_in new.stack ≡ walks_in old.stack
  pub cases : (v : Views) → cases_in P v new ≡ cases_in P v old
  pub local : local_of new ≡ local_of old
  pub askable : MayAsk old.layer.own old.stack old.mode → MayAsk new.layer.own new.stack new.mode
  pub carry : MayCarry old.stack old.mode → MayCarry new.stack new.mode
  pub same : MayAsk old.layer.own old.stack old.mode → (v : Views) (left : ℕ) (answers : List Answer) → machine P v left answers new ≡ machine P v left answers old
