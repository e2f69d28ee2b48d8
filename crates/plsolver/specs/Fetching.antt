-- What look-ups and walks ask in their views, and what becomes of the answers.
use Rattle.std.specs.Prelude.{◌≡◌, ◌⊎◌, ℕ, Bool, true, false, List, [], ◌∷◌, Option, Some, None, is_some}
use Rattle.plterm.specs.Tree.{Tree}
use Rattle.plterm.specs.declared.indicator.Indicator.{Indicator}
use Rattle.plsubst.specs.Subst.{shift}
use Rattle.plsubst.specs.Unify.{unify}
use Rattle.plcells.specs.declared.cell.Cell.{Cell}
use Rattle.plcells.specs.Store.{Store, value}
use Rattle.plclause.specs.Clause.{Clause}
use Rattle.plclause.specs.Indicators.{indicator}
use Rattle.plevent.specs.Alive.{exists}
use Rattle.plevent.specs.Keys.{first_key}
use Rattle.plevent.specs.declared.update.ClauseName.{ClauseName}
use Rattle.plevent.specs.declared.update.Update.{Update}
use Rattle.plevent.specs.declared.update.Update.TheVariants.{Erase}
use Rattle.plrecords.specs.declared.record.Cursor.{Cursor}
use Rattle.plstore.specs.declared.query.Query.{Query}
use Rattle.plstore.specs.declared.query.Found.{Found}
use Rattle.pltx.specs.Walks.{own_batch, own_fronts}
use Rattle.plviews.specs.declared.lookup.Reach.{Reach}
use Rattle.plviews.specs.declared.lookup.Reach.TheVariants as reaches
use Rattle.plviews.specs.declared.lookup.Step.{Step}
use Rattle.plviews.specs.declared.lookup.Step.TheVariants as steps
use Rattle.plviews.specs.declared.view.View.{View}
use Rattle.plviews.specs.Views.{IsUntouched}
use Rattle.plviews.specs.Lookups.{likely}
use Rattle.plstack.specs.Places.{head_in}
use Rattle.plstack.specs.Walks.{AtWalk}
use Rattle.plstack.specs.declared.frame.Point.{Point}
use Rattle.plstack.specs.declared.frame.Use.{Use}
use Rattle.plstack.specs.declared.frame.Use.TheVariants as uses
use Rattle.plstack.specs.declared.frame.Ahead.{Ahead}
use Rattle.plstack.specs.declared.frame.Spot.{Spot}
use Rattle.plstack.specs.declared.frame.Spot.TheVariants as spots
use Rattle.plstack.specs.declared.frame.Walk.{Walk}
use Rattle.plmachine.specs.declared.machine.Outcome.TheVariants as outcomes
use Rattle.plmachine.specs.declared.machine.Sought.{Sought}
use Rattle.plmachine.specs.declared.machine.SweepSpot.{SweepSpot}
use Rattle.plmachine.specs.declared.machine.SweepSpot.TheVariants as sweeps
use Rattle.plmachine.specs.declared.machine.Sweep.{Sweep}
use Rattle.plmachine.specs.declared.machine.Find.{Find}
use Rattle.plmachine.specs.declared.machine.Find.TheVariants as finds
use Rattle.plmachine.specs.declared.machine.Mode.{Mode as Going}
use Rattle.plmachine.specs.declared.machine.Mode.TheVariants as modes
use Rattle.plmachine.specs.declared.machine.Machine.{Machine as Reached}
use Rattle.plsolver.specs.declared.progress.Progress.{Progress}

-- the next clause of a head's procedure behind a cursor is asked, by the key of its first argument
abbrev pub like : Tree → Cursor → Query
like h c = Query.NextLike (indicator h) (first_key h) c

abbrev pub find_view : Find → View
find_view (finds.First x g) = g
find_view (finds.Exists c g) = g
find_view (finds.All c g) = g
find_view (finds.Sweep c w) = w.view

-- in a view, no own clause that was put before all others may be for the head h
abbrev pub NoneInFront : List Update → View → Tree → Type 0
NoneInFront own g h = likely (first_key h) (own_fronts (own_batch g.place g.count own) (indicator h)) ≡ []

-- in a view, no own update names a procedure
abbrev pub NoneNames : List Update → View → Indicator → Type 0
NoneNames own g p = exists (own_batch g.place g.count own) p ≡ false

-- behind a reach the journal's clauses are asked for next
abbrev pub ReachAsks : Tree → Reach → Query → Type 0
ReachAsks h (reaches.Front c) q = ⊥
ReachAsks h (reaches.Base c) q = q ≡ like h c
ReachAsks h (reaches.Back c) q = ⊥

-- the clause of a name is asked for, of which no own update tells
abbrev pub ClauseAsks : List Update → View → ClauseName → Query → Type 0
ClauseAsks own g x q = IsUntouched own g x × (q ≡ Query.Clause x)

abbrev pub SweepAsks : List Update → View → Tree → SweepSpot → Query → Type 0
SweepAsks own g h (sweeps.Seek r) q = ReachAsks h r q
SweepAsks own g h (sweeps.At x r) q = ClauseAsks own g x q

-- what a look-up asks next, where own updates tell nothing of it
abbrev pub FindAsks : List Update → Store → Find → Query → Type 0
FindAsks own s (finds.First x g) q = let h = head_in x.uses (value s x.goal) in NoneInFront own g h × (q ≡ like h Cursor.Start)
FindAsks own s (finds.Exists c g) q = let p = indicator (value s c) in NoneNames own g p × (q ≡ Query.Exists p)
FindAsks own s (finds.All c g) q = let p = indicator (value s c) in NoneNames own g p × (q ≡ Query.Exists p)
FindAsks own s (finds.Sweep c w) q = SweepAsks own w.view (value s c) w.spot q

-- what a walk for the head h asks next at a spot, in the view of the place g
abbrev pub SpotAsks : List Update → Tree → Spot → ℕ → Query → Type 0
SpotAsks own h (spots.Text k) g q = ⊥
SpotAsks own h (spots.Seek b r) g q = (g ≡ b.place) × ReachAsks h r q
SpotAsks own h (spots.At b x r) g q = (g ≡ b.place) × ReachAsks h r q
SpotAsks own h (spots.Known b x y) g q = (g ≡ b.place) × ClauseAsks own b x q

-- the clauses of the journal behind a cursor come next
abbrev pub IsBase : Reach → Type 0
IsBase (reaches.Front c) = ⊥
IsBase (reaches.Base c) = Unit {0}
IsBase (reaches.Back c) = ⊥

abbrev pub ComesToJournal : Spot → Type 0
ComesToJournal (spots.Text k) = ⊥
ComesToJournal (spots.Seek b r) = IsBase r
ComesToJournal (spots.At b x r) = IsBase r
ComesToJournal (spots.Known b x y) = ⊥

-- a look-up asks in its view
abbrev pub Seeks : Reached → ℕ → Query → Type 0
Seeks s g q = (f : Find) × (s.mode ≡ modes.Find f) × (g ≡ (find_view f).place) × FindAsks s.layer.own.updates s.stack.env.heap f q

-- a walk, the innermost case, is to go on, and asks in its view
pub record WalksOn (s : Reached) (g : ℕ) (q : Query) : Type 0 where
  pub point : Point
  pub walk : Walk
  pub at : AtWalk s.stack point walk
  pub fails : s.mode ≡ modes.Back outcomes.Fail
  pub asks : SpotAsks s.layer.own.updates (head_in walk.uses (value s.stack.env.heap walk.goal)) walk.spot g q

-- something is asked in the view of the place g
abbrev pub Fetches : Progress → ℕ → Query → Type 0
Fetches s g q = Seeks s.machine g q ⊎ WalksOn s.machine g q

abbrev pub IsFetching : Progress → Type 0
IsFetching s = (g : ℕ) × (q : Query) × Fetches s g q

-- an answer of the kind of its query
abbrev pub IsFoundFor : Query → Found → Type 0
IsFoundFor (Query.NextLike p k c) (Found.Next x) = Unit {0}
IsFoundFor (Query.Next p c) (Found.Next x) = Unit {0}
IsFoundFor (Query.Clause x) (Found.Clause c) = Unit {0}
IsFoundFor (Query.Alive x) (Found.Alive b) = Unit {0}
IsFoundFor (Query.Exists p) (Found.Exists b) = Unit {0}
IsFoundFor q f = ⊥

-- what is next where no clause may be for a goal
abbrev pub mode_none : Sought → View → Going
mode_none x g = none_by x.uses x.goal g
  where
    none_by : Use → Cell → View → Going
    none_by uses.Call c g = modes.Find (finds.Exists c g)
    none_by uses.Tell c g = modes.Back outcomes.Fail
    none_by uses.Erase c g = modes.Back outcomes.Fail

-- where a walk stands once a step told what comes next behind its spot, if it has not ended
abbrev pub spot_behind : Spot → Step → Option Spot
spot_behind (spots.Text k) step = None
spot_behind (spots.Seek g r) (steps.Next x q) = Some (spots.At g x q)
spot_behind (spots.Seek g r) steps.Nothing = None
spot_behind (spots.Seek g r) (steps.Asks c) = Some (spots.Seek g (reaches.Base c))
spot_behind (spots.At g x r) (steps.Next y q) = Some (spots.Known g x (Some (record { name = y; reach = q })))
spot_behind (spots.At g x r) steps.Nothing = Some (spots.Known g x None)
spot_behind (spots.At g x r) (steps.Asks c) = Some (spots.At g x (reaches.Base c))
spot_behind (spots.Known g x y) step = None

-- the spot at what is known to be next, if there is anything
abbrev pub spot_ahead : View → Option Ahead → Option Spot
spot_ahead g None = None
spot_ahead g (Some y) = Some (spots.At g y.name y.reach)

-- the same of a sweep
abbrev pub sweep_behind : Step → Option SweepSpot
sweep_behind (steps.Next x r) = Some (sweeps.At x r)
sweep_behind steps.Nothing = None
sweep_behind (steps.Asks c) = Some (sweeps.Seek (reaches.Base c))

-- whether there is a clause and its head unifies with a head
abbrev pub has_if : ℕ → Tree → Option Clause → Bool
has_if n h None = false
has_if n h (Some c) = is_some (unify h (shift n c.head))

abbrev pub erased_if : Bool → ClauseName → List Update
erased_if true x = Erase x ∷ []
erased_if false x = []

-- the clauses of a head are looked through, from a spot on
abbrev pub Sweeping : Progress → Cell → View → SweepSpot → Type 0
Sweeping s c g spot = (w : Sweep) × (s.machine.mode ≡ modes.Find (finds.Sweep c w)) × (w.view ≡ g) × (w.spot ≡ spot)

-- an answer's kind
abbrev pub IsNext : Found → Type 0
IsNext (Found.Next x) = Unit {0}
IsNext f = ⊥

abbrev pub IsClause : Found → Type 0
IsClause (Found.Clause c) = Unit {0}
IsClause f = ⊥

abbrev pub IsExists : Found → Type 0
IsExists (Found.Exists b) = Unit {0}
IsExists f = ⊥
