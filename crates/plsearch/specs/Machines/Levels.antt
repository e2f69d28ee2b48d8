-- The levels that a goal list names, and cases that do nothing but keep their levels.
use Rattle.std.specs.Prelude.{ℕ, ◌≤◌, List, [], ◌∷◌}
use Rattle.plsearch.specs.Types.{Kind, Transact, Element, Goal, Marker, Raise, Asking, Case, Choice}

abbrev pub IsKindAtMost : ℕ → Kind → Type 0
IsKindAtMost k (Transact d) = d ≤ k
IsKindAtMost k m = Unit {0}

-- an element names no level above this one
abbrev pub IsAtMost : ℕ → Element → Type 0
IsAtMost k (Goal l t) = l ≤ k
IsAtMost k (Marker m l) = IsKindAtMost k m × l ≤ k
IsAtMost k (Raise b) = Unit {0}
IsAtMost k (Asking q) = Unit {0}

abbrev pub AreAtMost : ℕ → List Element → Type 0
AreAtMost k [] = Unit {0}
AreAtMost k (e ∷ es) = IsAtMost k e × AreAtMost k es

-- choices with nothing left, in the place of some cases
abbrev pub emptied : List Case → List Case → List Case
emptied [] below = below
emptied (c ∷ cs) below = Choice [] ∷ emptied cs below
