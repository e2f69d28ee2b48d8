-- What a handler makes of the result of its list.
use Rattle.std.specs.Prelude.{ℕ, ◌+◌, ◌==◌, Bool, false, List, ◌∷◌, length, Option, Some, None, if◌then◌else◌}
use Rattle.std.specs.List.{list_any}
use Rattle.plterm.specs.Tree.{Tree}
use Rattle.plterm.specs.Variables.{copied, variables}
use Rattle.plsubst.specs.Subst.{bind}
use Rattle.plsubst.specs.Unify.{unify}
use Rattle.pltx.specs.Own.{ended}
use Rattle.plsearch.specs.Types.{Result, Fail, Throw, Element, Goal, Resolvent, Handler, Catch, Gather, Undo, Local, Return, Keep, Again, Anew}
use Rattle.plerror.specs.Errors.{error_term}
use Rattle.plsearch.specs.Lists.{bind_goals, levels}
use Rattle.plsearch.specs.Running.{Runnable, Runs, Raises, runnable}
use Rattle.plsearch.specs.Collecting.{copies_from, dropped, gathered}
use Rattle.plsearch.specs.Rows.{catch_3, solved}

abbrev pub has : ℕ → List ℕ → Bool
has d ls = list_any (λ l. l == d) ls

-- the recovery is run at a cut level of its own, before the list behind the goal; nothing is kept any more for handlers inside of it
abbrev pub recovers : Runnable → ℕ → List Element → ℕ → Local → Return
recovers (Runs g) d es n w = Anew (record { goals = Goal d g ∷ es; variables = n }) (dropped d w)
recovers (Raises e) d es n w = Keep (Throw (copied 0 (error_term e catch_3)) (levels es)) w

-- a ball that unifies with the catcher is caught, and another one goes on
abbrev pub met_by : Option (ℕ → Tree) → Tree → Tree → List ℕ → Resolvent → ℕ → Local → Return
met_by None r b ls p d w = Keep (Throw b ls) w
met_by (Some σ) r b ls p d w = recovers (runnable (bind σ r)) d (bind_goals σ p.goals) (p.variables + length (variables b)) w

-- the list behind the goal goes on, if it is given
abbrev pub goes_on : Option Resolvent → Local → Return
goes_on None w = Keep Fail w
goes_on (Some p) w = Again p w

-- the transaction or the snapshot that began last ends without success
abbrev pub undone : Local → Local
undone w = record w { own = ended false w.own }

-- the result of a list, at its handler, of the level d: a catcher is active while its goal runs, and it is unified with a copy of the
-- ball, whose variables are new, as all was when it was called; where a goal has no further solution, the list of what was kept of
-- each is unified with the term for it; and what is open ends where its goal fails, or throws while it runs
unfoldable pub resume : Handler → Resolvent → ℕ → Result → Local → Return
resume (Catch c r) p d (Throw b ls) w = if has d ls then met_by (unify c (copied p.variables b)) r b ls p d w else Keep (Throw b ls) w
resume (Gather l) p d Fail w = goes_on (solved p.goals p.variables (gathered l (copies_from d w.kept) p.variables)) (dropped d w)
resume Undo p d Fail w = Keep Fail (undone w)
resume Undo p d (Throw b ls) w = Keep (Throw b ls) (if has d ls then undone w else w)
resume h p d x w = Keep x w
