-- What is left of a look for variables.
use Rattle.std.specs.Prelude.{◌≡◌, ℕ, ◌+◌, ◌-◌, ◌^◌, ◌<◌, ◌≤◌, Bool, true, false, ◌&&◌, List, [], ◌∷◌, length, nat_lt, if◌then◌else◌}
use Rattle.std.specs.Bool.{⊤}
use Rattle.plterm.specs.Tree.{Tree, trees}
use Rattle.plterm.specs.Ground.{is_ground, are_ground}
use Rattle.plcells.specs.Store.{Store, at, terms, IsHead}
use Rattle.plcells.specs.Walking.{weight, weights}
use Rattle.plorder.specs.declared.variables.Span.{Span}

-- the cells of a span hold arguments
pub record IsSpan (h : Store) (s : Span) : Type 0 where
  pub some : 0 < s.count
  pub within : s.first + s.count ≤ length h.cells
  pub plain : (d : ℕ) → s.first ≤ d → d < s.first + s.count → IsHead (at h.cells d) → ⊥
  pub few : length h.cells < 2 ^ 32

abbrev pub AreSpans : Store → List Span → Type 0
AreSpans h [] = ⊤
AreSpans h (s ∷ ss) = IsSpan h s × AreSpans h ss

-- no variable stands in one of their terms
abbrev pub all_ground : Store → List Span → Bool
all_ground h [] = true
all_ground h (s ∷ ss) = are_ground (trees (terms h s.first s.count)) && all_ground h ss

-- how many nodes the terms have
abbrev pub weigh_spans : Store → List Span → ℕ
weigh_spans h [] = 0
weigh_spans h (s ∷ ss) = weights (trees (terms h s.first s.count)) + weigh_spans h ss

-- a span without its first cell, if there is another
abbrev pub rest_of : Span → List Span
rest_of s = if nat_lt 1 s.count then record { first = s.first + 1; count = s.count - 1 } ∷ [] else []

-- a term was looked at: it is a variable, or what is left of it is on the list
pub record IsLooked (h : Store) (old new : List Span) (t : Tree) : Type 0 where
  pub spans : AreSpans h old → AreSpans h new
  pub is : all_ground h new ≡ (all_ground h old && is_ground t)
  pub lighter : weigh_spans h new < weigh_spans h old + weight t

abbrev pub Looks : Store → List Span → List Span → Tree → Bool → Type 0
Looks h old new t true = IsLooked h old new t
Looks h old new t false = is_ground t ≡ false
