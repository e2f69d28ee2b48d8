-- What becomes of a walk in a view, or of a sweep, that goes on among own clauses.
use Rattle.std.specs.Prelude.{◌≡◌, ◌⊎◌, ◌<◌, ℕ, ◌+◌, ◌*◌, List, [], ◌∷◌, length, Option, Some, None}
use Rattle.plterm.specs.Tree.{Tree}
use Rattle.plcells.specs.declared.cell.Cell.{Cell}
use Rattle.plcells.specs.Store.{value}
use Rattle.plclause.specs.Indicators.{indicator}
use Rattle.plevent.specs.Keys.{first_key}
use Rattle.plevent.specs.declared.update.ClauseName.{ClauseName}
use Rattle.plevent.specs.declared.update.Update.{Update}
use Rattle.plprogram.specs.Program.{Program}
use Rattle.plstore.specs.declared.query.Query.{Query}
use Rattle.plclause.specs.Clause.{Clause}
use Rattle.plstore.specs.Looking.{Views, clause_alive}
use Rattle.plviews.specs.declared.lookup.Reach.{Reach}
use Rattle.plviews.specs.declared.view.View.{View}
use Rattle.plviews.specs.Views.{seen_in, sight, sight_in, AreOrdered}
use Rattle.plviews.specs.Lookups.{likely, rest_at}
use Rattle.plsearch.specs.Types.{Case, Choice}
use Rattle.plstack.specs.declared.frame.Ahead.{Ahead}
use Rattle.plstack.specs.declared.frame.Spot.{Spot}
use Rattle.plstack.specs.declared.frame.Spot.TheVariants as spots
use Rattle.plstack.specs.declared.frame.Walk.{Walk}
use Rattle.plstack.specs.declared.walk.Walking.{Walking}
use Rattle.plstack.specs.Frames.{IsSpotSeen}
use Rattle.plstack.specs.Places.{head_in}
use Rattle.plstack.specs.State.{RetriesBy}
use Rattle.plstack.specs.StaticCalls.{database_of}
use Rattle.plstack.specs.Walks.{AtWalk}
use Rattle.plmachine.specs.declared.machine.SweepSpot.{SweepSpot}
use Rattle.plmachine.specs.declared.machine.SweepSpot.TheVariants as sweeps
use Rattle.plmachine.specs.declared.machine.Sweep.{Sweep}
use Rattle.plmachine.specs.declared.machine.Find.{Find}
use Rattle.plmachine.specs.declared.machine.Find.TheVariants as finds
use Rattle.plmachine.specs.declared.machine.Mode.{Mode as Going}
use Rattle.plmachine.specs.declared.machine.Mode.TheVariants as modes
use Rattle.plmachine.specs.declared.machine.Machine.{Machine as Reached}
use Rattle.plmachine.specs.Machine.{cases_in, swept, IsPlain}
use Rattle.plsolver.specs.declared.progress.Progress.{Progress}
use Rattle.plsolver.specs.declared.sweep.Swept.{Swept}
use Rattle.plsolver.specs.declared.sweep.SweepPlace.{SweepPlace}
use Rattle.plsolver.specs.declared.sweep.Swept.TheVariants as swepts
use Rattle.plsolver.specs.declared.walk.Walked.{Walked}
use Rattle.plsolver.specs.declared.walk.Walked.TheVariants as walked
use Rattle.plsolver.specs.Fetching.{IsFetching, Sweeping, WalksOn}
use Rattle.plsolver.specs.Solver.{KeepsRest}

-- a walk goes on in a view
abbrev pub IsInView : Spot → Type 0
IsInView (spots.Text k) = ⊥
IsInView (spots.Seek g r) = Unit {0}
IsInView (spots.At g x r) = Unit {0}
IsInView (spots.Known g x y) = Unit {0}

-- how many own clauses that may have the head h stand behind a reach
abbrev pub own_behind : List Update → Tree → View → Reach → ℕ
own_behind own h g r = length (likely (first_key h) (rest_at (sight [] g own) (indicator h) r))

abbrev pub own_ahead : List Update → Tree → View → Option Ahead → ℕ
own_ahead own h g None = 0
own_ahead own h g (Some y) = 1 + own_behind own h g y.reach

-- so a walk goes on so often at most: each clause is come to, the one behind it is looked for, and it is tried
abbrev pub goes_left : List Update → Tree → Spot → ℕ
goes_left own h (spots.Text k) = 0
goes_left own h (spots.Seek g r) = 3 * own_behind own h g r + 2
goes_left own h (spots.At g x r) = 3 * (1 + own_behind own h g r) + 1
goes_left own h (spots.Known g x y) = 3 * (1 + own_ahead own h g y)

-- a sweep comes to each clause, and looks at it
abbrev pub sweep_left : List Update → Tree → View → SweepSpot → ℕ
sweep_left own h g (sweeps.Seek r) = 2 * own_behind own h g r
sweep_left own h g (sweeps.At x r) = 2 * own_behind own h g r + 1

abbrev pub find_left : Reached → Find → ℕ
find_left s (finds.First x g) = 0
find_left s (finds.Exists c g) = 0
find_left s (finds.All c g) = 0
find_left s (finds.Sweep c w) = sweep_left s.layer.own.updates (value s.stack.env.heap c) w.view w.spot

abbrev pub sweeps_left : Reached → Going → ℕ
sweeps_left s modes.Visit = 0
sweeps_left s (modes.Ask q) = 0
sweeps_left s (modes.Find f) = find_left s f
sweeps_left s (modes.Back r) = 0

-- the head that a walk's clauses may have
abbrev pub head_at : Reached → Walk → Tree
head_at s w = head_in w.uses (value s.stack.env.heap w.goal)

-- the open cases stand for what they did, where the batches of any views are in order
abbrev pub SameCases : Reached → Reached → Type 0
SameCases old new = (P : Program) (v : Views) → AreOrdered v → cases_in P v new ≡ cases_in P v old

-- a walk at the spot looks for what comes next behind a reach, with a clause in hand or without
abbrev pub LooksBehind : Spot → View → Reach → Type 0
LooksBehind spot g r = (spot ≡ spots.Seek g r) ⊎ ((x : ClauseName) × (spot ≡ spots.At g x r))

-- the innermost case, a walk, has gone on, and all is as it was at its opening
pub record GoesOnTo (old new : Reached) (at next : Walking) : Type 0 where
  pub same : SameCases old new
  pub walking : AtWalk new.stack next.point next.walk
  pub seen : IsSpotSeen new.stack.basis.latest next.walk.spot
  pub viewed : IsInView next.walk.spot
  pub fewer : goes_left new.layer.own.updates (head_at new next.walk) next.walk.spot < goes_left old.layer.own.updates (head_at old at.walk) at.walk.spot

-- nothing is left of the innermost case
abbrev pub HasEnded : Reached → Reached → Type 0
HasEnded old new = (P : Program) (v : Views) → AreOrdered v → (below : List Case) × (cases_in P v old ≡ Choice [] ∷ below) × (cases_in P v new ≡ Choice [] ∷ below)

-- the journal is to be asked by the innermost case
abbrev pub IsToAsk : Reached → Type 0
IsToAsk s = (g : ℕ) × (q : Query) × WalksOn s g q

-- it goes on from a spot, if it has not ended
abbrev pub walked_on : Option Spot → Walked
walked_on None = walked.Over
walked_on (Some x) = walked.On x

-- what a walk came to
abbrev pub WalkedTo : Reached → Reached → Walking → Walked → Type 0
WalkedTo old new at (walked.On x) = GoesOnTo old new at (record at { walk = record at.walk { spot = x } })
WalkedTo old new at (walked.Into e) = (P : Program) (v : Views) → AreOrdered v → RetriesBy (database_of P v old.layer.own.updates) old.stack new.stack e.erased
WalkedTo old new at walked.Asks = SameCases old new × IsToAsk new
WalkedTo old new at walked.Over = HasEnded old new

-- all clauses of a head are to be erased
abbrev pub IsSweeping : Progress → Type 0
IsSweeping s = (c : Cell) × (w : Sweep) × (s.machine.mode ≡ modes.Find (finds.Sweep c w))

-- a sweep stands there
abbrev pub StandsThere : Progress → SweepPlace → Type 0
StandsThere s at = Sweeping s at.head at.view at.spot

-- what is still to be erased
abbrev pub to_erase : Views → Reached → Cell → Sweep → List Update
to_erase v s c w = swept (sight_in v s.layer.own.updates w.view) s.stack.env.count (value s.stack.env.heap c) w

-- nothing more is to be erased than was found, where the batches of any views are in order
abbrev pub IsSwept : Reached → Type 0
IsSwept s = (c : Cell) (w : Sweep) (v : Views) → AreOrdered v → s.mode ≡ modes.Find (finds.Sweep c w) → to_erase v s c w ≡ w.updates.items

-- what a sweep came to
abbrev pub SweptTo : Progress → Progress → Swept → Type 0
SweptTo old new swepts.On = IsSweeping new × (sweeps_left new.machine new.machine.mode < sweeps_left old.machine old.machine.mode)
SweptTo old new swepts.Asks = IsFetching new
SweptTo old new swepts.Over = IsSweeping new × IsSwept new.machine

-- the clause of a name, if there is one, was looked at
pub record GoesPast (old new : Progress) (x : ClauseName) (r : Reach) (o : Option Clause) : Type 0 where
  pub head : Cell
  pub was : Sweep
  pub now : Sweep
  pub mode_was : old.machine.mode ≡ modes.Find (finds.Sweep head was)
  pub mode_now : new.machine.mode ≡ modes.Find (finds.Sweep head now)
  pub view : now.view ≡ was.view
  pub spot_was : was.spot ≡ sweeps.At x r
  pub spot_now : now.spot ≡ sweeps.Seek r
  pub layer : new.machine.layer ≡ old.machine.layer
  pub same : value new.machine.stack.env.heap head ≡ value old.machine.stack.env.heap head
  pub keeps : (P : Program) (v : Views) → AreOrdered v → o ≡ clause_alive x (seen_in v old.machine.layer.own.updates was.view) → KeepsRest P v old new

-- what was found to be erased is
abbrev pub Publishes : Program → Progress → Progress → Type 0
Publishes P old new = (c : Cell) (w : Sweep) → old.machine.mode ≡ modes.Find (finds.Sweep c w) → IsPlain new.machine.mode × ((v : Views) → AreOrdered v → to_erase v old.machine c w ≡ w.updates.items → KeepsRest P v old new)
