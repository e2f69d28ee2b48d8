-- A copy of a term, its variables behind those of a heap.
use Rattle.std.proofs.Common.{◌≡◌, ℕ, ◌+◌, ap, ap₂, refl, zero-add}
use Rattle.plterm.specs.Tree.{Tree, Trees, var, int, atom, compound, none, more}
use Rattle.plterm.specs.Variables.{place, variables, renamed, all_renamed, copied}
use Rattle.plsubst.specs.Subst.{bind, bind_all, shift}

mutual
  unfolding bind

  pub shift-renamed : (n : ℕ) (f : ℕ → ℕ) (t : Tree) → shift n (renamed (λ v. 0 + f v) t) ≡ renamed (λ v. n + f v) t
  shift-renamed n f (var v) = ap (λ x. var (n + x)) (zero-add (f v))
  shift-renamed n f (int i) = refl
  shift-renamed n f (atom s) = refl
  shift-renamed n f (compound s ts) = ap (compound s) (shift-all_renamed n f ts)

  pub shift-all_renamed : (n : ℕ) (f : ℕ → ℕ) (ts : Trees) → bind_all (λ x. var (n + x)) (all_renamed (λ v. 0 + f v) ts) ≡ all_renamed (λ v. n + f v) ts
  shift-all_renamed n f none = refl
  shift-all_renamed n f (more t ts) = ap₂ more (shift-renamed n f t) (shift-all_renamed n f ts)

pub shift-copied : (n : ℕ) (t : Tree) → shift n (copied 0 t) ≡ copied n t
shift-copied n t = shift-renamed n (λ v. place v (variables t)) t
