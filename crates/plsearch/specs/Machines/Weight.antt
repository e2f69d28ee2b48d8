-- How much a machine has before it without a step or an answer.
use Rattle.std.specs.Prelude.{◌≡◌, ℕ, ◌+◌, ◌<◌, ◌⊎◌, List, [], ◌∷◌}
use Rattle.plsearch.specs.Types.{Kind, Transact, Element, Marker, Resolvent, Case, Choice, Mark, Handle}
use Rattle.plsearch.specs.Engine.{left}
use Rattle.plsearch.specs.Machines.Machine.{Mode, At, Back, Machine}

-- behind the marker of a transaction a mark is set, and an element may come that publishes
abbrev pub kind_weight : Kind → ℕ
kind_weight (Transact d) = 4
kind_weight m = 2

abbrev pub element_weight : Element → ℕ
element_weight (Marker m l) = kind_weight m
element_weight e = 2

abbrev pub goals_weight : List Element → ℕ
goals_weight [] = 0
goals_weight (e ∷ es) = element_weight e + goals_weight es

abbrev pub place_weight : Resolvent → ℕ
place_weight p = goals_weight p.goals + 2

abbrev pub places_weight : List Resolvent → ℕ
places_weight [] = 1
places_weight (p ∷ ps) = place_weight p + 1 + places_weight ps

abbrev pub case_weight : Case → ℕ
case_weight (Choice ps) = places_weight ps
case_weight (Mark l) = 1
case_weight (Handle h p) = place_weight p + 3

abbrev pub cases_weight : List Case → ℕ
cases_weight [] = 0
cases_weight (c ∷ cs) = case_weight c + cases_weight cs

abbrev pub mode_weight : Mode → ℕ
mode_weight (At p) = place_weight p
mode_weight (Back r) = 1

unfoldable pub weight : Machine → ℕ
weight m = mode_weight m.mode + cases_weight m.cases

abbrev pub Lighter : Machine → Machine → Type 0
Lighter old new = (left new.run < left old.run) ⊎ ((left new.run ≡ left old.run) × (weight new < weight old))
