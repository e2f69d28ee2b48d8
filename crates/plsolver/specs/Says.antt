-- What a call of a solver that came to a turn says of the search.
use Rattle.std.specs.Prelude.{ℕ}
use Rattle.plevent.specs.Search.{View, Ask}
use Rattle.plprogram.specs.Program.{Program}
use Rattle.plsearch.specs.Solving.{StandsAt, EndsAt}
use Rattle.plsolver.specs.declared.progress.Selected.{Selected}
use Rattle.plsolver.specs.declared.progress.Progress.{Progress}
use Rattle.plsolver.specs.declared.solver.Turn.{Turn}
use Rattle.plsolver.specs.declared.solver.Turn.TheVariants as turns
use Rattle.plsolver.specs.declared.progress.Due.TheVariants as dues
use Rattle.plstore.specs.Looking.{Views}
use Rattle.plsolver.specs.Fetching.{Fetches}
use Rattle.plsolver.specs.Solver.{rest_of, Settled, WaitsForView, WaitsForReply}

-- it waits for a reply or for a view, a goal is to be selected with a step that is left, or it has ended
unfoldable pub Says : Program → Progress → Turn → Type 0
Says P s (turns.Ask q) = WaitsForReply s q × ((v : Views) → StandsAt (Ask q) (rest_of P v s) s.used s.machine.out.items)
Says P s turns.Refresh = WaitsForView s × ((v : Views) → StandsAt View (rest_of P v s) s.used s.machine.out.items)
Says P s (turns.Fetch q) = (g : ℕ) × Fetches s g q
Says P s turns.Slice = (x : Selected) × Settled P s (dues.Goal x)
Says P s (turns.Ended e) = (v : Views) → EndsAt s.limit e (rest_of P v s) s.used s.machine.out.items

abbrev pub IsSlice : Turn → Type 0
IsSlice (turns.Ask q) = ⊥
IsSlice turns.Refresh = ⊥
IsSlice (turns.Fetch q) = ⊥
IsSlice turns.Slice = Unit {0}
IsSlice (turns.Ended e) = ⊥
