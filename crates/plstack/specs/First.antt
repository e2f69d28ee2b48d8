-- What stands first in the visited list.
use Rattle.std.specs.Prelude.{◌≡◌, ℕ, ◌+◌, ◌≤◌, List, [], ◌∷◌, length, codes}
use Rattle.plterm.specs.Tree.{Tree}
use Rattle.plterm.specs.Variables.{AllBelow}
use Rattle.plsubst.specs.Subst.{bind}
use Rattle.plcells.specs.declared.cell.Cell.{Cell}
use Rattle.plcells.specs.Store.{IsValue, value}
use Rattle.plsearch.specs.Types.{Element, Goal, Marker}
use Rattle.plsearch.specs.Forms.{Both, form}
use Rattle.plcode.specs.declared.op.Step.{Step}
use Rattle.plcode.specs.Converted.{IsConverted}
use Rattle.plcode.specs.Steps.{Text, of_two, step_at, IsFor, Runs}
use Rattle.plenv.specs.Env.{over}
use Rattle.pllinks.specs.declared.item.ClauseGoals.{ClauseGoals}
use Rattle.pllinks.specs.declared.item.MarkerKind.{MarkerKind}
use Rattle.pllinks.specs.declared.link.Continuation.{Continuation}
use Rattle.pllinks.specs.Lists.{marker_of, run_goals, IsMarker}
use Rattle.pllinks.specs.Links.{IsDone}
use Rattle.plstack.specs.declared.first.First.{First}
use Rattle.plstack.specs.declared.first.First.TheVariants as firsts
use Rattle.plstack.specs.Levels.{FitsIn}
use Rattle.plstack.specs.State.{State, goals_in, goals_of, kinds_in, IsList}

-- the step at a place, which is not the end of a sequence
pub record IsStep (c : Text) (place : ℕ) (x : Step) : Type 0 where
  pub is : x ≡ step_at c place
  pub runs : Runs c place x

-- goals that begin with a conjunction, the list in which its two goals stand in its place, and the step that the run of that begins with
pub record AtBoth (s : State) (es : List Element) (next : Continuation) (x : Step) : Type 0 where
  pub step : IsStep s.basis.code.text next.run.position x
  pub level : ℕ
  pub left : Tree
  pub right : Tree
  pub rest : List Element
  pub goals : es ≡ Goal level (of_two (codes ",") left right) ∷ rest
  pub form_is : form (of_two (codes ",") left right) ≡ Both left right
  pub next_goals : goals_of s next ≡ Goal level left ∷ Goal level right ∷ rest
  pub there : IsList s next
  pub levels : FitsIn (kinds_in s) es

-- a list begins with no run that is at its end, but that of no goals
abbrev pub IsShort : State → Continuation → Type 0
IsShort s l = run_goals (goals_in s) l.run ≡ [] → IsDone l.run

-- goals that begin with one of a clause's body, by its step, whose variables have slots among those of the run, and the list behind it
pub record AtStep (s : State) (es : List Element) (r : ClauseGoals) (x : Step) (rest : Continuation) : Type 0 where
  pub goal : Tree
  pub is : IsFor s.basis.code.text r.position x.op x.goal goal
  pub is_converted : IsConverted goal
  pub width : ℕ
  pub below : AllBelow width goal
  pub own : r.base + width ≤ r.«end»
  pub slots : r.«end» ≤ length s.env.slots
  pub goals : es ≡ Goal r.level (bind (over s.env r.base) goal) ∷ goals_of s rest
  pub there : IsList s rest
  pub levels : FitsIn (kinds_in s) es
  pub short : IsShort s rest

-- goals that begin with one that is a term, and the list behind it
pub record AtGoal (s : State) (es : List Element) (level : ℕ) (v : Cell) (rest : Continuation) : Type 0 where
  pub fits : IsValue s.env.heap v
  pub goals : es ≡ Goal level (value s.env.heap v) ∷ goals_of s rest
  pub there : IsList s rest
  pub levels : FitsIn (kinds_in s) es

-- goals that begin with a marker, and the list behind it
pub record AtMarker (s : State) (es : List Element) (kind : MarkerKind) (level : ℕ) (rest : Continuation) : Type 0 where
  pub goals : es ≡ Marker (marker_of s.env.heap kind) level ∷ goals_of s rest
  pub fits : IsMarker s.env.heap kind
  pub there : IsList s rest
  pub levels : FitsIn (kinds_in s) es

-- what stands first in some goals
abbrev pub Begins : State → List Element → First → Type 0
Begins s es firsts.Nothing = es ≡ []
Begins s es (firsts.Both next x) = AtBoth s es next x
Begins s es (firsts.Step r x rest) = AtStep s es r x rest
Begins s es (firsts.Goal k v rest) = AtGoal s es k v rest
Begins s es (firsts.Marker m l rest) = AtMarker s es m l rest

abbrev pub IsFirst : State → First → Type 0
IsFirst s = Begins s (goals_of s s.goals)
