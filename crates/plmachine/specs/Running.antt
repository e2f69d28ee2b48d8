-- Terms that are run as goals.
use Rattle.std.specs.Prelude.{◌≡◌, [], ◌∷◌, ◌++◌}
use Rattle.std.specs.Bool.{⊤}
use Rattle.plcells.specs.Store.{value, IsValue}
use Rattle.plsearch.specs.Types.{Choice}
use Rattle.plsearch.specs.Running.{Runnable, Runs, Raises}
use Rattle.plstack.specs.Levels.{kinds, Precedes}
use Rattle.plstack.specs.State.{State, goals_of, kinds_in, IsList}
use Rattle.plstack.specs.Opening.{around_cases, IsAround}
use Rattle.plmachine.specs.declared.running.Ready.{Ready}
use Rattle.plmachine.specs.declared.running.Ready.TheVariants as readies
use Rattle.plmachine.specs.declared.running.Running.{Running}
use Rattle.plrefusals.specs.Predicates.{IsFew}

-- what a term comes to as a goal
abbrev pub ready_as : State → Ready → Runnable
ready_as s (readies.Runs v) = Runs (value s.env.heap v)
ready_as s (readies.Raises e) = Raises e

abbrev pub IsReady : State → Ready → Type 0
IsReady s (readies.Runs v) = IsValue s.env.heap v
IsReady s (readies.Raises e) = ⊤

pub record Readies (s : State) (runs : Runnable) (r : Ready) : Type 0 where
  pub is : runs ≡ ready_as s r
  pub there : IsReady s r

pub record IsRunning (s : State) (r : Running) : Type 0 where
  pub few : IsFew r.predicate
  pub around : IsAround s r.around
  pub list : IsList s r.list
  pub level : Precedes (kinds (Choice [] ∷ around_cases s r.around) ++ kinds_in s) r.level (goals_of s r.list)
