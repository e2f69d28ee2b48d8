-- The number of halt/1.
use Rattle.std.specs.Prelude.{ℕ, List, ◌∷◌}
use Rattle.plevent.specs.declared.request.Request.TheVariants.{HaltRun}
use Rattle.plsearch.specs.Types.{Element, Local, Move, Asking, Await, Ends}
use Rattle.plsearch.specs.Moves.{go_on, raised}
use Rattle.plsearch.specs.Rows.{halt_1}
use Rattle.plmachine.specs.declared.asking.Status.{Status}
use Rattle.plmachine.specs.declared.asking.Status.TheVariants as statuses

-- what it comes to
abbrev pub ended_with : Status → List Element → ℕ → Local → Move
ended_with (statuses.Is k) es n w = go_on (Asking (Await (HaltRun k) (Ends k)) ∷ es) n w
ended_with (statuses.Raises e) es n w = raised e halt_1 es w
