-- How much a cut leaves before a search.
use Rattle.std.proofs.Common.{ℕ, ◌+◌, ◌≤◌, List, [], ◌∷◌, ◌++◌, arith}
use Rattle.plsearch.specs.Types.{Case, Choice, Mark, Handle}
use Rattle.plsearch.specs.Machines.Levels.{emptied}
use Rattle.plsearch.specs.Machines.Weight.{case_weight, cases_weight}
use Rattle.plstack.specs.Places.{Database}
use Rattle.plstack.specs.State.{State, cases_of}
use Rattle.plstack.specs.Cutting.{Empties, EmptiesTo}

-- each case weighs as much as an empty choice, or more
some-weight : (c : Case) → 1 ≤ case_weight c
some-weight (Choice []) = omega arith
some-weight (Choice (p ∷ ps)) = omega arith
some-weight (Mark l) = omega arith
some-weight (Handle h p) = omega arith

emptied-weight : (cs base base' : List Case) → cases_weight base' ≤ cases_weight base → cases_weight (emptied cs base') ≤ cases_weight (cs ++ base)
emptied-weight [] base base' le = le
emptied-weight (c ∷ cs) base base' le = omega (arith, some-weight c, emptied-weight cs base base' le)

-- behind a mark, and without one
pub cut-weight : (db : Database) (old new : State) (level : ℕ) → Empties db old new level → cases_weight (cases_of db new) ≤ cases_weight (cases_of db old) + 1
cut-weight db old new level e =
    let less = emptied-weight (Mark level ∷ e.inside) (Choice e.places ∷ e.below) (Choice [] ∷ e.below) (omega (arith, some-weight (Choice e.places))) in
    rw (e.cases, e.was) (omega (arith, less))

pub drop-weight : (db : Database) (old new : State) (level : ℕ) → EmptiesTo db old new level → cases_weight (cases_of db new) ≤ cases_weight (cases_of db old)
drop-weight db old new level e =
    let less = emptied-weight e.inside (Choice e.places ∷ e.below) (Choice [] ∷ e.below) (omega (arith, some-weight (Choice e.places))) in
    rw (e.cases, e.was) less
