-- Terms that are apart.
use Rattle.std.proofs.Common.{◌≡◌, ℕ, ◌+◌, Bool, true, false, not, IsTrue, List, ◌∷◌, None, refl, sym, ap, ap₂, ◌∙◌}
use Rattle.plterm.specs.Tree.{Tree, Trees, var, int, atom, compound, none, more, trees}
use Rattle.plterm.specs.Variables.{all_renamed, copied, place, renamed, variables}
use Rattle.plsubst.specs.Subst.{bind, bind_all, shift}
use Rattle.plsubst.specs.Unify.{unify}
use Rattle.plsubst.proofs.Unify.{bind-bind, int≢compound, int≢atom, atom≢compound, more-head, more-tail, compound-parts, compound-name, atom-name, int-number}
use Rattle.plsubst.proofs.UnifyUnique.{unify-none}
use Rattle.plbind.specs.Apart.{AreApart, ListsApart}

-- they have no unifier, be it that the variables of one come behind those of the other
pub apart-none : (a b : Tree) (n : ℕ) → AreApart a b → unify a (shift n b) ≡ None
apart-none a b n apart = unify-none a (shift n b) (λ τ e. apart τ (λ x. bind τ (var (n + x))) (e ∙ bind-bind τ (λ x. var (n + x)) b))

mutual
  unfolding bind

  bind-renamed : (σ : ℕ → Tree) (f : ℕ → ℕ) (t : Tree) → bind σ (renamed f t) ≡ bind (λ v. σ (f v)) t
  bind-renamed σ f (var x) = refl
  bind-renamed σ f (int i) = refl
  bind-renamed σ f (atom s) = refl
  bind-renamed σ f (compound s ts) = ap (compound s) (bind-all_renamed σ f ts)

  bind-all_renamed : (σ : ℕ → Tree) (f : ℕ → ℕ) (ts : Trees) → bind_all σ (all_renamed f ts) ≡ bind_all (λ v. σ (f v)) ts
  bind-all_renamed σ f none = refl
  bind-all_renamed σ f (more t ts) = ap₂ more (bind-renamed σ f t) (bind-all_renamed σ f ts)

-- nor have one and a copy of the other
pub apart-copied : (a b : Tree) (n : ℕ) → AreApart a b → unify a (copied n b) ≡ None
apart-copied a b n apart =
    let at : ℕ → ℕ = λ v. n + place v (variables b) in
    unify-none a (copied n b) (λ τ e. apart τ (λ v. τ (at v)) (e ∙ bind-renamed τ at b))

-- ---- atoms and integers
pub atoms-apart : (f g : List ℕ) → (f ≡ g → ⊥) → AreApart (atom f) (atom g)
unfolding bind
atoms-apart f g differ σ τ e = differ (atom-name e)

pub atom-int : (f : List ℕ) (j : _) → AreApart (atom f) (int j)
unfolding bind
atom-int f j σ τ e = int≢atom (sym e)

pub atom-compound : (f g : List ℕ) (us : Trees) → AreApart (atom f) (compound g us)
unfolding bind
atom-compound f g us σ τ e = atom≢compound e

pub ints-apart : (i j : _) → (i ≡ j → ⊥) → AreApart (int i) (int j)
unfolding bind
ints-apart i j differ σ τ e = differ (int-number e)

pub int-atom : (i : _) (g : List ℕ) → AreApart (int i) (atom g)
unfolding bind
int-atom i g σ τ e = int≢atom e

pub int-compound : (i : _) (g : List ℕ) (us : Trees) → AreApart (int i) (compound g us)
unfolding bind
int-compound i g us σ τ e = int≢compound e

-- ---- compounds
pub compound-atom : (f g : List ℕ) (ts : Trees) → AreApart (compound f ts) (atom g)
unfolding bind
compound-atom f g ts σ τ e = atom≢compound (sym e)

pub compound-int : (f : List ℕ) (ts : Trees) (j : _) → AreApart (compound f ts) (int j)
unfolding bind
compound-int f ts j σ τ e = int≢compound (sym e)

pub names-apart : (f g : List ℕ) (ts us : Trees) → (f ≡ g → ⊥) → AreApart (compound f ts) (compound g us)
unfolding bind
names-apart f g ts us differ σ τ e = differ (compound-name e)

pub compounds-apart : (f g : List ℕ) (ts us : List Tree) → ListsApart ts us → AreApart (compound f (trees ts)) (compound g (trees us))
unfolding bind
compounds-apart f g ts us apart σ τ e = apart σ τ (compound-parts e)

pub first-apart : (t u : Tree) (ts us : List Tree) → AreApart t u → ListsApart (t ∷ ts) (u ∷ us)
unfolding bind
first-apart t u ts us apart σ τ e = apart σ τ (more-head e)

pub rest-apart : (t u : Tree) (ts us : List Tree) → ListsApart ts us → ListsApart (t ∷ ts) (u ∷ us)
unfolding bind
rest-apart t u ts us apart σ τ e = apart σ τ (more-tail e)

pub unless-same : (b : Bool) → not b ≡ true → IsTrue b → ⊥
unless-same true h t = cc
unless-same false h t = cc

pub unless-true : (b : Bool) → not b ≡ true → b ≡ true → ⊥
unless-true true h t = cc
unless-true false h t = cc
