-- Equations that are solved.
use Rattle.std.specs.Prelude.{◌≡◌, ℕ, ◌+◌, Some}
use Rattle.plterm.specs.Tree.{Tree}
use Rattle.plsubst.specs.Unify.{unify}
use Rattle.plenv.specs.Env.{Env}
use Rattle.plenv.specs.Changes.{Substitutes}

-- with so many more variables in use
abbrev pub counted : ℕ → Env → Env
counted n e = record { heap = e.heap; slots = e.slots; noted = e.noted; boundary = e.boundary; count = e.count + n }

-- the most general unifier of two terms, of which k variables are new, was put into each value and slot, and the new variables are in use
pub record Solves (old new : Env) (a b : Tree) (k : ℕ) : Type 0 where
  pub unifier : ℕ → Tree
  pub is : unify a b ≡ Some unifier
  pub made : Substitutes (counted k old) new unifier
