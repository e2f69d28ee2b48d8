-- Substitutions: what a term becomes when its variables stand for terms.
use Rattle.std.specs.Prelude.{ℕ, ◌+◌, Bool, true, false, ◌||◌, nat_eq}
use Rattle.plterm.specs.Tree.{Tree, var, int, atom, compound, Trees, none, more}

-- a term where each variable takes a term in its place
unfoldable mutual
  pub bind : (ℕ → Tree) → Tree → Tree
  bind σ (var x) = σ x
  bind σ (int i) = int i
  bind σ (atom f) = atom f
  bind σ (compound f ts) = compound f (bind_all σ ts)

  pub bind_all : (ℕ → Tree) → Trees → Trees
  bind_all σ none = none
  bind_all σ (more t ts) = more (bind σ t) (bind_all σ ts)

-- the same term over variables from n on
abbrev pub shift : ℕ → Tree → Tree
shift n = bind (λ x. var (n + x))

unfoldable mutual
  pub occurs : ℕ → Tree → Bool
  occurs x (var y) = nat_eq x y
  occurs x (int i) = false
  occurs x (atom f) = false
  occurs x (compound f ts) = occurs_in x ts

  pub occurs_in : ℕ → Trees → Bool
  occurs_in x none = false
  occurs_in x (more t ts) = occurs x t || occurs_in x ts

abbrev pub put_if : Bool → ℕ → Tree → Tree
put_if true y t = t
put_if false y t = var y

-- t in the place of the variable x
abbrev pub put : ℕ → Tree → ℕ → Tree
put x t y = put_if (nat_eq x y) y t
