-- What a solver stands for.
use Rattle.std.specs.Prelude.{◌≡◌, ◌⊎◌, ℕ, ◌+◌, ◌-◌, ◌<◌, ◌≤◌, Bool, true, false, List, [], ◌∷◌, length, min}
use Rattle.plterm.specs.Tree.{Tree}
use Rattle.plterm.specs.Variables.{copied, variables}
use Rattle.plcells.specs.declared.cell.Cell.{Cell}
use Rattle.plcells.specs.Store.{value}
use Rattle.plevent.specs.Search.{Answer, Search, Seen}
use Rattle.plevent.specs.declared.request.Request.{Request}
use Rattle.plevent.specs.declared.request.Request.TheVariants.{Start, Publish, EraseOne, Finish, HaltRun, Leave}
use Rattle.plevent.specs.declared.request.Reply.{Reply}
use Rattle.plevent.specs.declared.request.Reply.TheVariants as replies
use Rattle.plevent.specs.declared.update.ClauseName.{ClauseName}
use Rattle.plstore.specs.Looking.{Views}
use Rattle.pltx.specs.Own.{any_open}
use Rattle.pltx.specs.declared.level.Isolation.{Isolation}
use Rattle.plviews.specs.Layers.{bottom}
use Rattle.plviews.specs.Views.{AreOrdered}
use Rattle.plprogram.specs.Program.{Program}
use Rattle.plsearch.specs.Types.{Throw, Element, Case, Choice}
use Rattle.plsearch.specs.Types.{Goal as GoalOf}
use Rattle.plerror.specs.Errors.{error_term}
use Rattle.plsearch.specs.Lists.{levels}
use Rattle.plsearch.specs.Running.{runnable}
use Rattle.plsearch.specs.Collecting.{with_copy}
use Rattle.plsearch.specs.Rows.{catch_3, select}
use Rattle.plsearch.specs.Handlers.{has, recovers}
use Rattle.plsearch.specs.Engine.{deeper}
use Rattle.plsearch.specs.Machines.Machine.{At, Back, Rest, return}
use Rattle.plsearch.specs.Machines.Weight.{weight}
use Rattle.plsearch.specs.Replies.{Served, Late, outcome}
use Rattle.plsearch.specs.Solving.{Goes}
use Rattle.plsearch.specs.Search.{Start as StartOf, ending_of, from_start, once, start_from, start_of, start_with}
use Rattle.pllinks.specs.declared.link.Continuation.{Continuation}
use Rattle.plcode.specs.Callees.{Compiled, IsProgramCode}
use Rattle.plcode.specs.Steps.{goals_from}
use Rattle.plstack.specs.Places.{Database}
use Rattle.plstack.specs.State.{State, cases_of, goals_in, goals_of, walks_in, HasAnswers, HasBranch, HasClauses, IsList}
use Rattle.plstack.specs.declared.first.First.{First}
use Rattle.plstack.specs.declared.first.First.TheVariants as firsts
use Rattle.plstack.specs.First.{IsFirst}
use Rattle.plmachine.specs.declared.machine.Outcome.{Outcome}
use Rattle.plmachine.specs.declared.machine.Outcome.TheVariants as outcomes
use Rattle.plmachine.specs.declared.machine.Then.{Then}
use Rattle.plmachine.specs.declared.machine.Then.TheVariants as thens
use Rattle.plmachine.specs.declared.machine.Lookup.{Lookup}
use Rattle.plmachine.specs.declared.machine.Question.{Question}
use Rattle.plmachine.specs.declared.machine.Question.TheVariants as questions
use Rattle.plmachine.specs.declared.machine.Mode.{Mode as Going}
use Rattle.plmachine.specs.declared.machine.Mode.TheVariants as modes
use Rattle.plmachine.specs.declared.machine.Machine.{Machine as Reached}
use Rattle.plmachine.specs.Machine.{below_in, cases_in, depth_of, local_of, machine, now, run_in, IsBegun, IsClosed, IsMachine, IsPlain, MayAsk, MayCarry, MovedBy}
use Rattle.plmachine.specs.Machine.{Stays as StaysThere}
use Rattle.plsolver.specs.declared.progress.Selected.{Selected}
use Rattle.plsolver.specs.declared.progress.Selected.TheVariants as goals
use Rattle.plsolver.specs.declared.progress.Due.{Due}
use Rattle.plsolver.specs.declared.progress.Due.TheVariants as dues
use Rattle.plsolver.specs.declared.progress.Pause.{Pause}
use Rattle.plsolver.specs.declared.progress.Pause.TheVariants as pauses
use Rattle.plsolver.specs.declared.progress.Progress.{Progress}
use Rattle.plsolver.specs.declared.solver.Start.{Start as Given}
use Rattle.plsolver.specs.Fetching.{IsFetching}

-- the rest of its search, where the views are these, by a limit of steps from the start and the answers to come
unfoldable pub rest_of : Program → Views → Progress → Search
rest_of P v s n answers = ending_of (min n s.limit) (Rest P (machine P v (min n s.limit - s.used) answers s.machine))

-- the machine was begun with the program; what it asks can be asked, a ball that it carries is for all that is open, and its own updates are
-- tied to its cases
pub record IsOf (P : Program) (s : Reached) : Type 0 where
  pub begun : IsBegun P s
  pub sound : IsMachine s

-- the code is the program's, and nothing is left behind its last step
pub record IsSharedOf (P : Program) (code : Compiled) : Type 0 where
  pub code_of : IsProgramCode P code
  pub none : goals_from code.text 0 0 ≡ []

-- the latest place whose view is kept
abbrev pub latest_view : Progress → ℕ
latest_view s = s.machine.stack.basis.latest.place

-- what is left of its search stays, whatever the limit of steps and the answers to come, where the batches of any views are in order
unfoldable pub GoesTo : Program → Progress → Progress → Type 0
GoesTo P old new = (v : Views) → AreOrdered v → Goes old.limit (rest_of P v old) old.used (rest_of P v new) new.used

-- it stands where it stood
pub record Stays (P : Program) (old new : Progress) : Type 0 where
  pub used : new.used ≡ old.used
  pub limit : new.limit ≡ old.limit
  pub places : new.places.items ≡ old.places.items
  pub there : StaysThere P old.machine new.machine

-- without a step or an answer, and without a later view, it came to where the same is left of its search and nothing is sought, with less
-- before it
pub record QuietIn (P : Program) (v : Views) (old new : Progress) : Type 0 where
  pub used : new.used ≡ old.used
  pub limit : new.limit ≡ old.limit
  pub places : new.places.items ≡ old.places.items
  pub of : IsOf P old.machine → IsOf P new.machine
  pub latest : latest_view new ≡ latest_view old
  pub plain : IsPlain new.machine.mode
  pub rest : (left : ℕ) (answers : List Answer) → left + old.used ≤ old.limit → Rest P (machine P v left answers new.machine) ≡ Rest P (machine P v left answers old.machine)
  pub lighter : old.used ≤ old.limit → weight (machine P v 0 [] new.machine) < weight (machine P v 0 [] old.machine)

-- whatever the views are whose batches are in order
abbrev pub Quiet : Program → Progress → Progress → Type 0
Quiet P old new = (v : Views) → AreOrdered v → QuietIn P v old new

-- without a step or an answer it came to where the same is left of its search, where the views are these
pub record KeepsRest (P : Program) (v : Views) (old new : Progress) : Type 0 where
  pub used : new.used ≡ old.used
  pub limit : new.limit ≡ old.limit
  pub rest : (most left : ℕ) (answers : List Answer) → now P v old.machine most left answers ≡ now P v new.machine most left answers

-- the same where any views are whose batches are in order; it takes no later view, and nothing is sought anew
pub record Keeps (P : Program) (old new : Progress) : Type 0 where
  pub used : new.used ≡ old.used
  pub limit : new.limit ≡ old.limit
  pub places : new.places.items ≡ old.places.items
  pub of : IsOf P old.machine → IsOf P new.machine
  pub latest : latest_view new ≡ latest_view old
  pub plain : IsPlain old.machine.mode → IsPlain new.machine.mode
  pub keeps : (v : Views) → AreOrdered v → KeepsRest P v old new

-- it carries a result, and no case is open
abbrev pub IsOver : Program → Progress → Type 0
IsOver P s = (r : Outcome) × (s.machine.mode ≡ modes.Back r) × ((v : Views) → cases_in P v s.machine ≡ [])

-- this is asked
abbrev pub Asks : Progress → Question → Type 0
Asks s q = s.machine.mode ≡ modes.Ask q

-- a look-up of clauses waits for a view, or what begins on it does
abbrev pub WaitsForView : Progress → Type 0
WaitsForView s = ((u : Lookup) × Asks s (questions.Look u)) ⊎ ((i : Isolation) × (g : Cell) × Asks s (questions.Begin i g))

-- a request waits for its reply: a clause is erased by a request where nothing is open
abbrev pub WaitsForReply : Progress → Request → Type 0
WaitsForReply s (Publish us) = Asks s (questions.Await (Publish us) thens.GoesOn)
WaitsForReply s (EraseOne x) = Asks s (questions.Erase x) × IsClosed s.machine.layer.own
WaitsForReply s (HaltRun n) = Asks s (questions.Await (HaltRun n) (thens.Ends n))
WaitsForReply s Start = ⊥
WaitsForReply s (Finish e) = ⊥
WaitsForReply s Leave = ⊥

-- the request that a question asks, and what follows it
abbrev pub IsRequestOf : Question → Request → Type 0
IsRequestOf (questions.Look u) q = ⊥
IsRequestOf (questions.Begin i g) q = ⊥
IsRequestOf (questions.Await p next) q = q ≡ p
IsRequestOf (questions.Erase x) q = q ≡ EraseOne x

abbrev pub next_after : Question → Then
next_after (questions.Look u) = thens.GoesOn
next_after (questions.Begin i g) = thens.GoesOn
next_after (questions.Await q next) = next
next_after (questions.Erase x) = thens.GoesOn

abbrev pub Waits : Progress → Type 0
Waits s = (q : Request) × WaitsForReply s q

-- the reply says that the request was served, or that it came too late
abbrev pub IsReplyTo : Request → Reply → Type 0
IsReplyTo q replies.Gone = outcome q replies.Gone ≡ Late
IsReplyTo q r = outcome q r ≡ Served

-- a reply is given for the request that waits
abbrev pub ReplyFits : Progress → Reply → Type 0
ReplyFits s r = (q : Request) × WaitsForReply s q × IsReplyTo q r

-- what is next where a request was served, and after a reply that fits: a request that came too late fails
abbrev pub after_done : Then → Going
after_done thens.GoesOn = modes.Visit
after_done (thens.Ends n) = modes.Back (outcomes.Halted n)

abbrev pub after_reply : Reply → Then → Going
after_reply replies.Gone next = modes.Back outcomes.Fail
after_reply r next = after_done next

-- what waits for a view went on with that of a place, which is the next answer
pub record TakesView (P : Program) (old new : Progress) (g : ℕ) : Type 0 where
  pub latest : latest_view new ≡ g
  pub takes : (v : Views) (most left : ℕ) (answers : List Answer) → now P v old.machine most left (Seen g (v g) ∷ answers) ≡ now P v new.machine most left answers

-- a goal that is to be selected, as the first of a list
abbrev pub first_of : Selected → First
first_of (goals.Both next x) = firsts.Both next x
first_of (goals.Step r x rest) = firsts.Step r x rest
first_of (goals.Goal k v rest) = firsts.Goal k v rest

-- it stands first in the visited list
abbrev pub IsSelected : Reached → Selected → Type 0
IsSelected s x = (s.mode ≡ modes.Visit) × IsFirst s.stack (first_of x)

-- nothing can be done before something else is
unfoldable pub PausesAt : Program → Progress → Pause → Type 0
PausesAt P s pauses.Look = WaitsForView s
PausesAt P s pauses.Fetch = IsFetching s
PausesAt P s pauses.Await = Waits s
PausesAt P s pauses.Over = IsOver P s

unfoldable pub Settled : Program → Progress → Due → Type 0
Settled P s (dues.Goal x) = IsSelected s.machine x × (s.used + 1 ≤ s.limit)
Settled P s (dues.Paused x) = PausesAt P s x

-- the goal that stands first was selected
abbrev pub Selects : Program → Reached → Reached → Type 0
Selects P old new = (k : ℕ) (t : Tree) (rest : List Element) → goals_of old.stack old.stack.goals ≡ GoalOf k t ∷ rest →
    MovedBy P old new (λ v. select P (below_in v old) k t (depth_of old) rest old.stack.env.count (local_of old))

-- a step was taken
pub record Stepped (P : Program) (old new : Progress) : Type 0 where
  pub goes : GoesTo P old new
  pub used : new.used ≡ old.used + 1
  pub limit : new.limit ≡ old.limit
  pub places : new.places.items ≡ old.places.items

-- it carries a ball, and the level is among those of the markers behind it
abbrev pub result_throws : ℕ → Outcome → Bool
result_throws d outcomes.Stop = false
result_throws d outcomes.Fail = false
result_throws d (outcomes.Throw t ls) = has d ls.items
result_throws d (outcomes.Halted n) = false
result_throws d outcomes.Spent = false

abbrev pub throws_to : ℕ → Going → Bool
throws_to d modes.Visit = false
throws_to d (modes.Ask q) = false
throws_to d (modes.Find f) = false
throws_to d (modes.Back r) = result_throws d r

-- it carries a result
abbrev pub IsBack : Progress → Type 0
IsBack s = (r : Outcome) × (s.machine.mode ≡ modes.Back r)

-- the innermost case is a choice that may have a place left
abbrev pub HasChoice : State → Type 0
HasChoice s = HasBranch s ⊎ HasClauses s ⊎ HasAnswers s

-- a copy of a term is kept for the handler of a level, and the list fails
abbrev pub Collects : Progress → Progress → ℕ → Tree → Type 0
Collects old new l t = new ≡ record old { machine = record old.machine { kept = with_copy l t old.machine.kept; mode = modes.Back outcomes.Fail } }

-- a clause is to be erased before the visited list, of what is open
abbrev pub ErasesOwn : Progress → ClauseName → Type 0
ErasesOwn s x = Asks s (questions.Erase x) × (any_open s.machine.layer.own ≡ true)

-- an error of catch/3 is carried, and the innermost case was closed
pub record Rethrown (P : Program) (old new : Progress) (e : Tree) (list : Continuation) : Type 0 where
  pub frame : new ≡ record old { machine = record old.machine { stack = new.machine.stack; mode = new.machine.mode } }
  pub basis : new.machine.stack.basis ≡ old.machine.stack.basis
  pub plain : IsPlain new.machine.mode
  pub askable : MayAsk new.machine.layer.own new.machine.stack new.machine.mode
  pub carry : MayCarry new.machine.stack new.machine.mode
  pub is : (v : Views) (h : Case) (below : List Case) → cases_in P v old.machine ≡ h ∷ below → (left : ℕ) (answers : List Answer) →
      machine P v left answers new.machine
      ≡ record { mode = Back (Throw (copied 0 (error_term e catch_3)) (levels (goals_of old.machine.stack list))); cases = below; run = run_in v left answers old.machine }

-- the recovery was run in place of the innermost case, before a list, or is no goal
pub record Recovered (P : Program) (old new : Progress) (recovery : Cell) (list : Continuation) : Type 0 where
  pub frame : new ≡ record old { machine = record old.machine { stack = new.machine.stack; mode = new.machine.mode; kept = new.machine.kept } }
  pub basis : new.machine.stack.basis ≡ old.machine.stack.basis
  pub plain : IsPlain new.machine.mode
  pub askable : MayAsk new.machine.layer.own new.machine.stack new.machine.mode
  pub carry : MayCarry new.machine.stack new.machine.mode
  pub is : (v : Views) (h : Case) (below : List Case) → cases_in P v old.machine ≡ h ∷ below → (left : ℕ) (answers : List Answer) →
      machine P v left answers new.machine
      ≡ return below (run_in v left answers old.machine)
      (recovers (runnable (value old.machine.stack.env.heap recovery)) (deeper below 0) (goals_of old.machine.stack list) old.machine.stack.env.count (local_of old.machine))

-- a stack with no list, no case and no variable, on which nothing is open
pub record IsEmpty (s : State) : Type 0 where
  pub none : goals_in s 0 0 ≡ []
  pub links : s.links ≡ []
  pub frames : s.frames ≡ []
  pub count : s.env.count ≡ 0
  pub latest : s.basis.latest ≡ record { place = 0; count = 0 }
  pub starts : s.basis.starts ≡ []

-- a list of goals, each once, and no case is open
pub record Starts (s : State) (list : Continuation) (goals : List Tree) : Type 0 where
  pub list_there : IsList s list
  pub place : record { goals = goals_of s list; variables = s.env.count } ≡ start_from goals
  pub cases : (db : Database) → cases_of db s ≡ []

-- one more goal before a list
pub record StartsGoal (old new : State) (list made : Continuation) (g : Tree) : Type 0 where
  pub list_there : IsList new made
  pub goals : goals_of new made ≡ GoalOf 0 (once (copied old.env.count g)) ∷ goals_of old list
  pub count : new.env.count ≡ old.env.count + length (variables g)
  pub cases : (db : Database) → cases_of db new ≡ cases_of db old

-- the start that is given
abbrev pub start_given : Program → Given → StartOf
start_given P s = start_with P (record { number = s.thread; alias = s.alias }) s.goal

-- a machine at the start of a search
pub record IsStart (P : Program) (start : StartOf) (s : Reached) : Type 0 where
  pub of : IsOf P s
  pub latest : s.stack.basis.latest.place ≡ 0
  pub layer : s.layer ≡ bottom
  pub walks : walks_in s.stack ≡ []
  pub is : (v : Views) (left : ℕ) (answers : List Answer) → machine P v left answers s ≡ record { mode = At (start_of start); cases = Choice [] ∷ []; run = from_start P start left answers }
