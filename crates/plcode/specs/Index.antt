-- The clauses of a procedure by the keys of their first arguments.
use Rattle.std.specs.Prelude.{◌≡◌, ℕ, suc, ◌≤◌, ◌<◌, true, false, if◌then◌else◌, Option, Some, None, List, [], ◌∷◌, Vec, length, take, drop, get_or}
use Rattle.std.specs.Global.{Global}
use Rattle.indexmap.specs.IndexMap.{IndexMap, get}
use Rattle.plcode.specs.declared.key.Key.{Key}
use Rattle.plcode.specs.contracts.key.KeyPartialEq.TheImpl.{ghosts}
use Rattle.plcode.specs.declared.clause.ClauseCode.{ClauseCode}
use Rattle.plcode.specs.Keys.{admits}

-- no clause from a place to before another is one that a goal of a key may be for
abbrev pub NoneAdmitted : Key → List ClauseCode → ℕ → ℕ → Type 0
NoneAdmitted k cs from to = (i : ℕ) → from ≤ i → i < to → (c : ClauseCode) → take 1 (drop i cs) ≡ c ∷ [] → admits k c.key ≡ false

-- the clause at a place is one
abbrev pub IsAdmitted : Key → List ClauseCode → ℕ → Type 0
IsAdmitted k cs at = (c : ClauseCode) → take 1 (drop at cs) ≡ c ∷ [] → admits k c.key ≡ true

-- the first one from a place on
abbrev pub IsNext : Key → List ClauseCode → ℕ → Option ℕ → Type 0
IsNext k cs from None = NoneAdmitted k cs from (length cs)
IsNext k cs from (Some at) = (from ≤ at) × (at < length cs) × NoneAdmitted k cs from at × IsAdmitted k cs at

-- ---- places by keys

-- the places of the clauses of a key, in their order; n is that of the first clause
abbrev pub places : Key → ℕ → List ClauseCode → List ℕ
places k n [] = []
places k n (c ∷ cs) = if ghosts.eq c.key k then n ∷ places k (suc n) cs else places k (suc n) cs

-- the places that a map has for a key
abbrev pub items : Option (Vec ℕ Global) → List ℕ
items None = []
items (Some run) = run.items

abbrev pub places_in : {S : Type 0} → IndexMap Key (Vec ℕ Global) S → Key → List ℕ
places_in m k = items (get ghosts.eq m k)

-- a map has the places of each key, that of anything among them
abbrev pub HasPlaces : {S : Type 0} → IndexMap Key (Vec ℕ Global) S → List ClauseCode → Type 0
HasPlaces m cs = (k : Key) → places_in m k ≡ places k 0 cs

-- the map of a procedure, if it has one
abbrev pub IsIndex : {S : Type 0} → Option (IndexMap Key (Vec ℕ Global) S) → List ClauseCode → Type 0
IsIndex None cs = Unit {0}
IsIndex (Some m) cs = HasPlaces m cs

-- ---- the first of rising places from one on

abbrev pub IsRising : List ℕ → Type 0
IsRising ps = (i j : ℕ) → i ≤ j → j < length ps → get_or ps i 0 ≤ get_or ps j 0

-- a place is among others
pub record IsOneOf (ps : List ℕ) (p : ℕ) : Type 0 where
  pub index : ℕ
  pub within : index < length ps
  pub is : get_or ps index 0 ≡ p

abbrev pub IsFirstFrom : List ℕ → ℕ → Option ℕ → Type 0
IsFirstFrom ps from None = (p : ℕ) → IsOneOf ps p → p < from
IsFirstFrom ps from (Some at) = IsOneOf ps at × (from ≤ at) × ((p : ℕ) → IsOneOf ps p → from ≤ p → at ≤ p)

-- a place, if there is one, is not after another, if there is one
abbrev pub NotAfter : Option ℕ → Option ℕ → Type 0
NotAfter r None = Unit {0}
NotAfter None (Some b) = ⊥
NotAfter (Some a) (Some b) = a ≤ b
