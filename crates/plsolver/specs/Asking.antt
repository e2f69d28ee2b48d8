-- What a look-up, and the walk that it becomes, may still ask.
use Rattle.std.specs.Prelude.{◌≡◌, ◌≢◌, ◌⊎◌, ℕ, ◌<◌, ◌≤◌, List, [], ◌∷◌, ◌++◌, filter, length, map, if◌then◌else◌, nat_eq, Option, None, Some}
use Rattle.std.specs.List.{flat_map, AllByRecursion}
use Rattle.plterm.specs.Tree.{Tree}
use Rattle.plcells.specs.declared.cell.Cell.{Cell}
use Rattle.plcells.specs.Store.{Store, value}
use Rattle.plclause.specs.Indicators.{indicator}
use Rattle.plevent.specs.declared.update.ClauseName.{ClauseName}
use Rattle.plevent.specs.Alive.{Stamped, living, names_of}
use Rattle.plevent.specs.Keys.{first_key}
use Rattle.plstore.specs.declared.query.Query.{Query}
use Rattle.plrecords.specs.declared.record.Cursor.{Cursor}
use Rattle.plrecords.specs.declared.record.Cursor.TheVariants.{Start, After}
use Rattle.plstore.specs.Like.{fits, rest}
use Rattle.plstore.specs.Looking.{Views}
use Rattle.plrecords.specs.Rising.{Ordered}
use Rattle.plviews.specs.declared.lookup.Reach.{Reach}
use Rattle.plviews.specs.declared.lookup.Reach.TheVariants as reaches
use Rattle.plviews.specs.declared.view.View.{View}
use Rattle.plstack.specs.declared.frame.Ahead.{Ahead}
use Rattle.plstack.specs.declared.frame.Use.{Use}
use Rattle.plstack.specs.declared.frame.Use.TheVariants as uses
use Rattle.plstack.specs.declared.frame.Spot.{Spot}
use Rattle.plstack.specs.declared.frame.Spot.TheVariants as spots
use Rattle.plstack.specs.declared.frame.Point.{Point}
use Rattle.plstack.specs.declared.frame.Walk.{Walk}
use Rattle.plstack.specs.Places.{head_in}
use Rattle.plstack.specs.State.{State, walks_in, EndsWalks}
use Rattle.plstack.specs.Walks.{AtWalk}
use Rattle.plmachine.specs.declared.machine.SweepSpot.{SweepSpot}
use Rattle.plmachine.specs.declared.machine.SweepSpot.TheVariants as sweeps
use Rattle.plmachine.specs.declared.machine.Sought.{Sought}
use Rattle.plmachine.specs.declared.machine.Find.{Find}
use Rattle.plmachine.specs.declared.machine.Find.TheVariants as finds
use Rattle.plmachine.specs.declared.machine.Outcome.TheVariants as outcomes
use Rattle.plmachine.specs.declared.machine.Mode.{Mode as Going}
use Rattle.plmachine.specs.declared.machine.Mode.TheVariants as modes
use Rattle.plmachine.specs.declared.machine.Machine.{Machine as Reached}
use Rattle.plmachine.specs.Machine.{IsFirstOf, IsPlain}
use Rattle.plsolver.specs.Fetching.{find_view, like}

-- the names of the journal's clauses behind a cursor that may have the head h
abbrev pub names_behind : List Stamped → Tree → Cursor → List ClauseName
names_behind us h c = names_of (filter (fits (first_key h)) (rest c (living us (indicator h))))

-- of each name its clause may be asked for, and which one is behind it
abbrev pub names_asks : Tree → List ClauseName → List Query
names_asks h xs = flat_map (λ x. Query.Clause x ∷ like h (After x) ∷ []) xs

abbrev pub behind_asks : List Stamped → Tree → Cursor → List Query
behind_asks us h c = like h c ∷ names_asks h (names_behind us h c)

-- behind a reach: own clauses are asked for nowhere
abbrev pub reach_asks : List Stamped → Tree → Reach → List Query
reach_asks us h (reaches.Front k) = behind_asks us h Start
reach_asks us h (reaches.Base c) = behind_asks us h c
reach_asks us h (reaches.Back k) = []

-- the clause of a name, which is not one of the view's place, where own clauses are
abbrev pub clause_asks : View → ClauseName → List Query
clause_asks g x = if nat_eq x.place g.place then [] else Query.Clause x ∷ []

-- a clause, and those behind a reach
abbrev pub onward_asks : View → List Stamped → Tree → ClauseName → Reach → List Query
onward_asks g us h x r = clause_asks g x ++ reach_asks us h r

abbrev pub ahead_asks : View → List Stamped → Tree → Option Ahead → List Query
ahead_asks g us h None = []
ahead_asks g us h (Some y) = onward_asks g us h y.name y.reach

-- what a walk for the head h may still ask, at a spot
abbrev pub spot_asks : Views → Tree → Spot → List Query
spot_asks v h (spots.Text k) = []
spot_asks v h (spots.Seek g r) = reach_asks (v g.place) h r
spot_asks v h (spots.At g x r) = onward_asks g (v g.place) h x r
spot_asks v h (spots.Known g x y) = clause_asks g x ++ ahead_asks g (v g.place) h y

-- what a sweep may still ask
abbrev pub sweep_asks : View → List Stamped → Tree → SweepSpot → List Query
sweep_asks g us h (sweeps.Seek r) = reach_asks us h r
sweep_asks g us h (sweeps.At x r) = onward_asks g us h x r

-- where no clause may be for a goal, of one that is called it is asked whether its procedure exists
abbrev pub none_asks : Use → Tree → List Query
none_asks uses.Call h = Query.Exists (indicator h) ∷ []
none_asks uses.Tell h = []
none_asks uses.Erase h = []

abbrev pub first_asks : Use → Tree → List ClauseName → List Query
first_asks u h [] = none_asks u h
first_asks u h (x ∷ xs) = names_asks h (x ∷ xs)

-- what a look-up may still ask, with the walk that it becomes
abbrev pub find_asks : Views → Store → Find → List Query
find_asks v s (finds.First x g) = let h = head_in x.uses (value s x.goal) in like h Start ∷ first_asks x.uses h (names_behind (v g.place) h Start)
find_asks v s (finds.Exists c g) = Query.Exists (indicator (value s c)) ∷ []
find_asks v s (finds.All c g) = Query.Exists (indicator (value s c)) ∷ behind_asks (v g.place) (value s c) Start
find_asks v s (finds.Sweep c w) = sweep_asks w.view (v w.view.place) (value s c) w.spot

-- no query comes twice
abbrev pub EachOnce : List Query → Type 0
EachOnce [] = Unit {0}
EachOnce (q ∷ qs) = AllByRecursion (λ r. q ≢ r) qs × EachOnce qs

-- what a look-up may ask, in a view whose updates are in order, holds no query twice
abbrev pub AsksOnce : Type 0
AsksOnce = (v : Views) (s : Store) (f : Find) → IsFirstOf f → Ordered (v (find_view f).place) → EachOnce (find_asks v s f)

-- a query was among these, and is not among those that are left; some that stood behind it may have gone with it
pub record Spends (old : List Query) (q : Query) (new : List Query) : Type 0 where
  pub before : List Query
  pub gone : List Query
  pub behind : List Query
  pub was : old ≡ before ++ (q ∷ (gone ++ behind))
  pub is : new ≡ before ++ behind

-- so it is asked no more where no query comes twice, and none does again
abbrev pub AsksNoMore : Type 0
AsksNoMore = (old new : List Query) (q : Query) → Spends old q new → EachOnce old → AllByRecursion (λ r. q ≢ r) new × EachOnce new

-- a walk for the head h stands before the others at a spot where these may still be asked, or has ended
abbrev pub WalkLeft : Views → Tree → Cell → Use → List Query → List Walk → List Walk → Type 0
WalkLeft v h goal u qs others walks = ((x : Spot) × (walks ≡ record { goal = goal; uses = u; spot = x } ∷ others) × (spot_asks v h x ≡ qs)) ⊎ (walks ≡ others)

-- only the look-up for a goal's first clause becomes a walk; else walks may have ended
abbrev pub LeavesWalk : Views → Find → Reached → Reached → List Query → Type 0
LeavesWalk v (finds.First x g) old new qs = WalkLeft v (head_in x.uses (value old.stack.env.heap x.goal)) x.goal x.uses qs (walks_in old.stack) (walks_in new.stack)
LeavesWalk v (finds.Exists c g) old new qs = EndsWalks old.stack new.stack
LeavesWalk v (finds.All c g) old new qs = EndsWalks old.stack new.stack
LeavesWalk v (finds.Sweep c w) old new qs = EndsWalks old.stack new.stack

-- a look-up may still ask these, as a look-up or as a walk, or has ended
abbrev pub FindLeft : Views → Find → Reached → Reached → List Query → Type 0
FindLeft v f old new qs =
    ((g : Find) × (new.mode ≡ modes.Find g) × (find_asks v new.stack.env.heap g ≡ qs) × (walks_in new.stack ≡ walks_in old.stack))
    ⊎ (IsPlain new.mode × LeavesWalk v f old new qs)

-- a query was among those that it could ask
pub record FindAsked (v : Views) (f : Find) (old new : Reached) (q : Query) : Type 0 where
  pub others : List Query
  pub spends : Spends (find_asks v old.stack.env.heap f) q others
  pub left : FindLeft v f old new others

-- and so of the innermost walk
pub record WalkAsked (v : Views) (w : Walk) (old new : Reached) (q : Query) : Type 0 where
  pub others : List Query
  pub spends : Spends (spot_asks v (head_in w.uses (value old.stack.env.heap w.goal)) w.spot) q others
  pub outside : List Walk
  pub walks : walks_in old.stack ≡ w ∷ outside
  pub plain : IsPlain new.mode
  pub left : WalkLeft v (head_in w.uses (value old.stack.env.heap w.goal)) w.goal w.uses others outside (walks_in new.stack)

-- what was asked was among what the look-up in hand, or the innermost walk, could ask, and may be asked by it no more
pub record AsksNext (v : Views) (old new : Reached) (q : Query) : Type 0 where
  pub find : (f : Find) → old.mode ≡ modes.Find f → FindAsked v f old new q
  pub walk : (p : Point) (w : Walk) → AtWalk old.stack p w → old.mode ≡ modes.Back outcomes.Fail → WalkAsked v w old new q

-- the view in which a walk goes on; one over the program's text sees no updates
abbrev pub view_at : Spot → View
view_at (spots.Text k) = record { place = 0; count = 0 }
view_at (spots.Seek g r) = g
view_at (spots.At g x r) = g
view_at (spots.Known g x y) = g

-- a walk sees own updates
abbrev pub SeesOwn : Walk → Type 0
SeesOwn w = 0 < (view_at w.spot).count

-- a walk stands further on, at a spot where it may ask no more than it could, whatever its head is
pub record GoesFurther (old new : Walk) : Type 0 where
  pub goal : new.goal ≡ old.goal
  pub uses : new.uses ≡ old.uses
  pub view : view_at new.spot ≡ view_at old.spot
  pub asks : (v : Views) (h : Tree) → (gone : List Query) × (spot_asks v h old.spot ≡ gone ++ spot_asks v h new.spot)

-- a look-up, over the heap where its goal stands, goes on as another one, which may ask no more than it could: one for a goal's first clause
-- is the same
pub record LooksOn (s : Store) (f : Find) (t : Store) (g : Find) : Type 0 where
  pub first : (x : Sought) (b : View) → g ≡ finds.First x b → (f ≡ g) × (value t x.goal ≡ value s x.goal)
  pub asks : (v : Views) → (gone : List Query) × (find_asks v s f ≡ gone ++ find_asks v t g)

-- queries that stand together among others
pub record IsPart (all part : List Query) : Type 0 where
  pub before : List Query
  pub behind : List Query
  pub is : all ≡ before ++ (part ++ behind)

-- a look-up for a goal's first clause has become a walk of that goal in its view, which may ask no more than it could
pub record BecomesWalk (s : Store) (f : Find) (w : Walk) : Type 0 where
  pub sought : Sought
  pub view : View
  pub first : f ≡ finds.First sought view
  pub goal : w.goal ≡ sought.goal
  pub uses : w.uses ≡ sought.uses
  pub seen : view_at w.spot ≡ view
  pub own : SeesOwn w
  pub asks : (v : Views) → IsPart (find_asks v s f) (spot_asks v (head_in sought.uses (value s sought.goal)) w.spot)

-- what an activation has that may still ask: a look-up that is in hand, over a heap, or a walk, which is an open case
pub data Activation : Type 0 where
  InHand : Store → Find → Activation
  InCase : Walk → Activation

-- it has gone on without an answer, and may ask no more than it could
abbrev pub GoesOnAs : Activation → Activation → Type 0
GoesOnAs (InHand s f) (InHand t g) = LooksOn s f t g
GoesOnAs (InHand s f) (InCase w) = BecomesWalk s f w
GoesOnAs (InCase w) (InHand t g) = ⊥
GoesOnAs (InCase w) (InCase x) = GoesFurther w x

-- as many of both, each gone on as the one that stands for it
abbrev pub AllGone : {A : Type 0} → (A → A → Type 0) → List A → List A → Type 0
AllGone R [] [] = Unit {0}
AllGone R [] (x ∷ xs) = ⊥
AllGone R (w ∷ ws) [] = ⊥
AllGone R (w ∷ ws) (x ∷ xs) = R w x × AllGone R ws xs

-- without an answer the innermost walks may have ended, and the others have gone on
pub record Further (old new : State) : Type 0 where
  pub ended : List Walk
  pub kept : List Walk
  pub was : walks_in old ≡ ended ++ kept
  pub further : AllGone GoesFurther kept (walks_in new)

-- the activations of a machine that may still ask: that of the look-up in hand, and those of the walks, the innermost first
abbrev pub in_hand : Store → Going → List Activation
in_hand s modes.Visit = []
in_hand s (modes.Ask q) = []
in_hand s (modes.Find f) = InHand s f ∷ []
in_hand s (modes.Back r) = []

abbrev pub in_cases : State → List Activation
in_cases s = map InCase (walks_in s)

abbrev pub activations : Reached → List Activation
activations s = in_hand s.stack.env.heap s.mode ++ in_cases s.stack

-- what begins without an answer: a walk of those sees own updates
abbrev pub MayBegin : Activation → Type 0
MayBegin (InHand s f) = Unit {0}
MayBegin (InCase w) = SeesOwn w

-- the first of the activations may have ended, and the others have gone on; and at most so many have begun
pub record Onward (most : ℕ) (old new : List Activation) : Type 0 where
  pub ended : List Activation
  pub kept : List Activation
  pub begun : List Activation
  pub left : List Activation
  pub was : old ≡ ended ++ kept
  pub now : new ≡ begun ++ left
  pub further : AllGone GoesOnAs kept left
  pub own : AllByRecursion MayBegin begun
  pub few : length begun ≤ most

-- nothing is sought but what is left of a look-up that was in hand
abbrev pub SeeksOn : Reached → Reached → Type 0
SeeksOn old new = (g : Find) → new.mode ≡ modes.Find g → (f : Find) × (old.mode ≡ modes.Find f) × LooksOn old.stack.env.heap f new.stack.env.heap g
