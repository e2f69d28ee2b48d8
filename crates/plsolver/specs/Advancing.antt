-- How a search advances between two answers: by steps, and between them without one.
use Rattle.std.specs.Prelude.{◌≡◌, ◌⊎◌, ◌-◌}
use Rattle.plprogram.specs.Program.{Program}
use Rattle.plsolver.specs.declared.progress.Selected.{Selected}
use Rattle.plsolver.specs.declared.progress.Progress.{Progress}
use Rattle.plsolver.specs.Asking.{activations, in_cases, Onward}
use Rattle.plsolver.specs.Solver.{GoesTo, IsSelected, Selects, Stepped}

-- without a step: the same is left of the search, and what may still ask has gone on or ended; nothing has begun
pub record SettlesTo (P : Program) (old new : Progress) : Type 0 where
  pub goes : GoesTo P old new
  pub used : new.used ≡ old.used
  pub limit : new.limit ≡ old.limit
  pub asks : Onward 0 (activations old.machine) (activations new.machine)

-- with a step: nothing was sought, and the goal that stood first was selected, once. Walks may have ended and none has gone on or begun, and
-- what is left is what the row of that goal leaves, in whatever views: so what is sought now, if anything, that goal seeks, from its beginning
pub record StepsTo (P : Program) (old new : Progress) : Type 0 where
  pub selected : Selected
  pub first : IsSelected old.machine selected
  pub selects : Selects P old.machine new.machine
  pub stepped : Stepped P old new

-- steps, each behind what settled before it
pub data AdvancesTo (P : Program) (old : Progress) : Progress → Type 0 where
  NoStep : {new : Progress} → SettlesTo P old new → AdvancesTo P old new
  OneMore : {due taken new : Progress} → AdvancesTo P old due → StepsTo P due taken → SettlesTo P taken new → AdvancesTo P old new

-- it advanced so far, and from there, without a step, the walks have gone on or ended: this is so where memory was refused on the way, too
pub record AdvancesInPart (P : Program) (old new : Progress) : Type 0 where
  pub reached : Progress
  pub advances : AdvancesTo P old reached
  pub used : new.used ≡ reached.used
  pub walks : Onward 0 (activations reached.machine) (in_cases new.machine.stack)

-- it stays, or took a step
abbrev pub StepsOn : Progress → Progress → Type 0
StepsOn old new = (new ≡ old) ⊎ ((P : Program) → StepsTo P old new)

-- so at most as many look-ups and walks begin as steps are taken
abbrev pub BeginsBySteps : Type 0
BeginsBySteps = (P : Program) (old new : Progress) → AdvancesTo P old new → Onward (new.used - old.used) (activations old.machine) (activations new.machine)

-- and so of the walks
abbrev pub WalksBySteps : Type 0
WalksBySteps = (P : Program) (old new : Progress) → AdvancesInPart P old new → Onward (new.used - old.used) (activations old.machine) (in_cases new.machine.stack)
