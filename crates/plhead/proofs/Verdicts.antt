-- What verdicts say.
use Rattle.std.proofs.Common.{◌≡◌, ◌↔◌, ℕ, ℤ, ◌<◌, Bool, true, false, IsTrue, List, [], arith, length, refl, sym, ap, ◌∙◌, None}
use Rattle.plterm.specs.Tree.{Tree, int, atom}
use Rattle.plsubst.specs.Subst.{bind}
use Rattle.plsubst.specs.Unify.{unify}
use Rattle.plsubst.proofs.UnifyUnique.{unify-none}
use Rattle.platoms.specs.Names.{atom_at}
use Rattle.plcells.specs.declared.cell.Cell.{Cell}
use Rattle.plcells.specs.declared.cell.Cell.TheVariants.{Ref, Atom as AtomCell}
use Rattle.plcells.specs.Store.{Store, value, IsHeap, IsValue}
use Rattle.plcode.specs.declared.node.Node.{Node}
use Rattle.plenv.specs.Env.{Env}
use Rattle.plenv.specs.Changes.{Unifies}
use Rattle.plhead.specs.declared.compare.Verdict.{Verdict}
use Rattle.plhead.specs.declared.compare.Verdict.TheVariants.{Same, Clash, Args}
use Rattle.plhead.specs.Equations.{Terms}
use Rattle.plhead.specs.Fitting.{said, Comes, IsVerdict}
use Rattle.plhead.proofs.Clashes.{atom-clash, int-clash}
use Rattle.plhead.proofs.Solving.{solved, started}

pub no : IsTrue false → ⊥
no h = grind (arith, h)

module _ (h : Store) (is : IsHeap h) (nodes : List Node) (w : Terms) (v : Cell) (fits : IsValue h v) (solid : (j : ℕ) → v ≡ Ref j → ⊥) where
  pub atom-says : (a : ℕ) (u : Tree) → u ≡ atom (atom_at h.names a) → a < length h.names.atoms → (b : Bool) → IsTrue b ↔ (v ≡ AtomCell a) → IsVerdict h nodes w u (value h v) (said b)
  unfolding IsVerdict bind
  atom-says a u e lt true test = λ σ τ. ap (λ t. bind τ (bind σ t)) e ∙ sym (ap (λ x. bind τ (value h x)) (test.0 refl))
  atom-says a u e lt false test = λ σ τ q. atom-clash h is a v lt fits solid (λ same. no (test.1 same)) σ τ (sym (ap (λ t. bind τ (bind σ t)) e) ∙ q)

  pub int-says : (i : ℤ) (u : Tree) → u ≡ int i → (b : Bool) → IsTrue b ↔ (value h v ≡ int i) → IsVerdict h nodes w u (value h v) (said b)
  unfolding IsVerdict bind
  int-says i u e true test = λ σ τ. ap (λ t. bind τ (bind σ t)) e ∙ sym (ap (bind τ) (test.0 refl))
  int-says i u e false test = λ σ τ q. int-clash h is i v fits solid (λ same. no (test.1 same)) σ τ (sym (ap (λ t. bind τ (bind σ t)) e) ∙ q)

-- ---- what a node and a value come to

pub comes-said : (old new : Env) (nodes : List Node) (w : Terms) (u s t : Tree) (b : Bool) → (b ≡ true → Unifies old new s t) → (b ≡ false → unify s t ≡ None) → Comes old new nodes w u s t (said b)
unfolding Comes
comes-said old new nodes w u s t true one other = one refl
comes-said old new nodes w u s t false one other = other refl

pub says-comes : (e : Env) (nodes : List Node) (w : Terms) (σ : ℕ → Tree) (u t : Tree) (r : Verdict) → IsVerdict e.heap nodes w u t r → Comes e e nodes w u (bind σ u) t r
unfolding IsVerdict Comes
says-comes e nodes w σ u t Same says =
    solved e e 0 w (bind σ u) t [] (started e 0 w (bind σ u) t [] (record { to = λ τ q. tt; back = λ τ q. says σ τ })) refl
says-comes e nodes w σ u t Clash says = unify-none (bind σ u) t (λ τ q. says σ τ q)
says-comes e nodes w σ u t (Args i c k) says = (says, refl)
