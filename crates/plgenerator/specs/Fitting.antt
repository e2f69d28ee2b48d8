-- Solutions whose sides have a unifier.
use Rattle.std.specs.Prelude.{◌≡◌, ℕ, List, [], ◌∷◌, Option, Some, None}
use Rattle.plterm.specs.Tree.{Tree}
use Rattle.plsubst.specs.Unify.{unify}
use Rattle.plbuiltin.specs.Solution.{Solution}

abbrev pub Misses : Solution → Type 0
Misses s = unify s.left s.right ≡ None

abbrev pub fitting_by : Option (ℕ → Tree) → Solution → List Solution → List Solution
fitting_by None s ss = ss
fitting_by (Some σ) s ss = s ∷ ss

-- those of the solutions
abbrev pub fitting : List Solution → List Solution
fitting [] = []
fitting (s ∷ ss) = fitting_by (unify s.left s.right) s (fitting ss)
