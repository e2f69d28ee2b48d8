-- What goal lists stand for.
use Rattle.std.specs.Prelude.{ℕ, ◌+◌, ◌≤◌, List, [], ◌∷◌, map}
use Rattle.std.specs.List.{flat_map}
use Rattle.plterm.specs.Tree.{Tree}
use Rattle.plsubst.specs.Subst.{bind}
use Rattle.plcells.specs.Store.{Store, IsValue, value}
use Rattle.plcode.specs.Converted.{AreConverted}
use Rattle.plsearch.specs.Types.{Kind, Commit, Never, Until, Collect, Transact, Element, Goal, Marker}
use Rattle.plenv.specs.Env.{Env, over}
use Rattle.plenv.specs.Rows.{AllBelowEach}
use Rattle.pllinks.specs.declared.item.MarkerKind.{MarkerKind}
use Rattle.pllinks.specs.declared.item.MarkerKind.TheVariants as markers
use Rattle.pllinks.specs.declared.item.ClauseGoals.{ClauseGoals}
use Rattle.pllinks.specs.declared.item.Portion.{Portion}
use Rattle.pllinks.specs.declared.item.Portion.TheVariants as items

-- the goals from a position of the code on, where so many conjunctions of the first have been selected
abbrev pub Goals : Type 0
Goals = ℕ → ℕ → List Tree

-- what a marker over a heap stands for
abbrev pub marker_of : Store → MarkerKind → Kind
marker_of h markers.Commit = Commit
marker_of h markers.Never = Never
marker_of h markers.Until = Until
marker_of h (markers.Collect v) = Collect (value h v)
marker_of h (markers.Transact d) = Transact d

-- the goals of a run of compiled goals
abbrev pub run_goals : Goals → ClauseGoals → List Tree
run_goals code r = code r.position r.owed

-- a goal of a clause whose slots begin at a place, at a level
abbrev pub goal_of : Env → ClauseGoals → Tree → Element
goal_of e r t = Goal r.level (bind (over e r.base) t)

abbrev pub elements : Goals → Env → Portion → List Element
elements code e (items.Clause r) = map (goal_of e r) (run_goals code r)
elements code e (items.Goal k v) = Goal k (value e.heap v) ∷ []
elements code e (items.Marker m l) = Marker (marker_of e.heap m) l ∷ []

-- what a goal list stands for, by its items
unfoldable pub all_elements : Goals → Env → List Portion → List Element
all_elements code e = flat_map (elements code e)

-- the variables of a run's goals have their slots before `end`, and the goals are converted
pub record IsRun (code : Goals) (r : ClauseGoals) : Type 0 where
  pub width : ℕ
  pub below : AllBelowEach width (run_goals code r)
  pub within : r.base + width ≤ r.«end»
  pub converted : AreConverted (run_goals code r)

-- the value of a marker is one of the heap
abbrev pub IsMarker : Store → MarkerKind → Type 0
IsMarker h markers.Commit = Unit {0}
IsMarker h markers.Never = Unit {0}
IsMarker h markers.Until = Unit {0}
IsMarker h (markers.Collect v) = IsValue h v
IsMarker h (markers.Transact d) = Unit {0}

-- an item whose slots stand below n, and whose value is one of the heap
abbrev pub IsItem : Goals → Store → ℕ → Portion → Type 0
IsItem code h n (items.Clause r) = IsRun code r × (r.«end» ≤ n)
IsItem code h n (items.Goal k v) = IsValue h v
IsItem code h n (items.Marker m l) = IsMarker h m

abbrev pub AreItems : Goals → Store → ℕ → List Portion → Type 0
AreItems code h n [] = Unit {0}
AreItems code h n (x ∷ xs) = IsItem code h n x × AreItems code h n xs
