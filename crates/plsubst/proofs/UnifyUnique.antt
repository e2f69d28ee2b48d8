-- A most general unifier that binds the younger variable to the older is the one that unify gives, whatever way it was found.
use Rattle.std.proofs.Common.{◌≡◌, ℕ, zero, suc, ◌+◌, ◌≤◌, Bool, true, false, List, refl, sym, ap, ap₂, ◌∙◌, subst, arith, eqb-true, nat_eq, nat_lt, bytes_eq, int_eq, ltb-true, ltb-false, ℤ, Option, Some, None, option_map, le_antisymm, le_refl, le_trans}
use Rattle.std.specs.Bool.{⊤}
use Rattle.plterm.specs.Tree.{Tree, Trees, var, int, atom, compound, none, more}
use Rattle.plsubst.specs.Subst.{bind, bind_all, occurs, put_if, put}
use Rattle.plsubst.specs.Unify.{places, Difference, Same, Clash, Binds, same_if, younger, or_else, differ, differ_in, removed, round, unify_in, unify, IsMostGeneral, BindsYounger}
use Rattle.plsubst.proofs.Unify.{IfUnified, more-head, more-tail, compound-parts, unify-general}
use Rattle.plsubst.proofs.UnifyFinds.{Found, unify-found}

variable_of : ℕ → Tree → ℕ
variable_of d (var x) = x
variable_of d (int i) = d
variable_of d (atom s) = d
variable_of d (compound f ts) = d

pub var-variable : {x y : ℕ} → var x ≡ var y → x ≡ y
unfolding variable_of
var-variable {x} e = ap (variable_of x) e

pub int≢var : {i : ℤ} {x : ℕ} {P : Type 0} → int i ≡ var x → P
int≢var e = absurd (grind (arith, e))

pub atom≢var : {f : List ℕ} {x : ℕ} {P : Type 0} → atom f ≡ var x → P
atom≢var e = absurd (grind (arith, e))

pub compound≢var : {f : List ℕ} {ts : Trees} {x : ℕ} {P : Type 0} → compound f ts ≡ var x → P
compound≢var e = absurd (grind (arith, e))

module _ (σ ρ : ℕ → Tree) (σ-younger : BindsYounger σ) (ρ-younger : BindsYounger ρ)
    (σ-of : (y : ℕ) → bind σ (ρ y) ≡ σ y) where
  same_variable : (z : ℕ) (t : Tree) → ρ z ≡ t → bind σ t ≡ var z → t ≡ var z
  unfolding bind
  same_variable z (var u) is e = ap var (le_antisymm (ρ-younger z u is) (σ-younger u z e))
  same_variable z (int i) is e = int≢var e
  same_variable z (atom s) is e = atom≢var e
  same_variable z (compound f ts) is e = compound≢var e

  fixed_variable : (z : ℕ) → σ z ≡ var z → ρ z ≡ var z
  fixed_variable z e = same_variable z (ρ z) refl (σ-of z ∙ e)

  mutual
    unfolding bind

    fixed : (t : Tree) → bind σ t ≡ t → bind ρ t ≡ t
    fixed (var z) e = fixed_variable z e
    fixed (int i) e = refl
    fixed (atom s) e = refl
    fixed (compound f ts) e = ap (compound f) (fixed_all ts (compound-parts e))

    fixed_all : (ts : Trees) → bind_all σ ts ≡ ts → bind_all ρ ts ≡ ts
    fixed_all none e = refl
    fixed_all (more t ts) e = ap₂ more (fixed t (more-head e)) (fixed_all ts (more-tail e))

pub most_general-unique : (a b : Tree) (σ ρ : ℕ → Tree) → IsMostGeneral a b σ → IsMostGeneral a b ρ → BindsYounger σ → BindsYounger ρ → (y : ℕ) → σ y ≡ ρ y
most_general-unique a b σ ρ s r sy ry y =
    sym (fixed σ ρ sy ry (r.1 σ s.0) (σ y) (s.1 σ s.0 y)) ∙ s.1 ρ r.0 y

-- the difference binds the younger
abbrev Younger : Difference → Type 0
Younger Same = ⊤
Younger Clash = ⊤
Younger (Binds x t) = (u : ℕ) → t ≡ var u → u ≤ x

or_else-younger : (d e : Difference) → Younger d → Younger e → Younger (or_else d e)
or_else-younger Same e yd ye = ye
or_else-younger Clash e yd ye = tt
or_else-younger (Binds x t) e yd ye = yd

same_if-younger : (b : Bool) → Younger (same_if b)
same_if-younger true = tt
same_if-younger false = tt

younger-younger : (p q : Bool) (x y : ℕ) → nat_lt x y ≡ q → Younger (younger p q x y)
younger-younger true q x y is = tt
younger-younger false true x y is = λ u e. subst (λ v. v ≤ y) (var-variable e) (omega (arith, ltb-true x y is))
younger-younger false false x y is = λ u e. subst (λ v. v ≤ x) (var-variable e) (ltb-false x y is)

mutual
  unfolding differ

  differ-younger : (a b : Tree) → Younger (differ a b)
  differ-younger (var x) (var y) = younger-younger (nat_eq x y) (nat_lt x y) x y refl
  differ-younger (var x) (int i) = λ u e. int≢var e
  differ-younger (var x) (atom g) = λ u e. atom≢var e
  differ-younger (var x) (compound g us) = λ u e. compound≢var e
  differ-younger (int i) (var y) = λ u e. int≢var e
  differ-younger (int i) (int j) = same_if-younger (int_eq i j)
  differ-younger (int i) (atom g) = tt
  differ-younger (int i) (compound g us) = tt
  differ-younger (atom f) (var y) = λ u e. atom≢var e
  differ-younger (atom f) (int j) = tt
  differ-younger (atom f) (atom g) = same_if-younger (bytes_eq f g)
  differ-younger (atom f) (compound g us) = tt
  differ-younger (compound f ts) (var y) = λ u e. compound≢var e
  differ-younger (compound f ts) (int j) = tt
  differ-younger (compound f ts) (atom g) = tt
  differ-younger (compound f ts) (compound g us) = or_else-younger (same_if (bytes_eq f g)) (differ_in ts us) (same_if-younger (bytes_eq f g)) (differ_in-younger ts us)

  differ_in-younger : (ts us : Trees) → Younger (differ_in ts us)
  differ_in-younger none none = tt
  differ_in-younger none (more u us) = tt
  differ_in-younger (more t ts) none = tt
  differ_in-younger (more t ts) (more u us) = or_else-younger (differ t u) (differ_in ts us) (differ-younger t u) (differ_in-younger ts us)

put-younger : (σ : ℕ → Tree) (x : ℕ) (t : Tree) → BindsYounger σ → ((u : ℕ) → t ≡ var u → u ≤ x) → BindsYounger (λ y. bind σ (put x t y))
unfolding bind
put-younger σ x t sy ty w z e = go (nat_eq x w) refl e
  where
    of_term : (t : Tree) → ((u : ℕ) → t ≡ var u → u ≤ x) → bind σ t ≡ var z → z ≤ x
    of_term (var u) ty e = le_trans (sy u z e) (ty u refl)
    of_term (int i) ty e = int≢var e
    of_term (atom s) ty e = atom≢var e
    of_term (compound f ts) ty e = compound≢var e

    go : (b : Bool) → nat_eq x w ≡ b → bind σ (put_if b w t) ≡ var z → z ≤ w
    go true is e = subst (λ v. z ≤ v) (eqb-true x w is) (of_term t ty e)
    go false is e = sy w z e

removed-younger : (next : Tree → Tree → Option (ℕ → Tree)) (b : Bool) (x : ℕ) (t u v : Tree) → ((w : ℕ) → t ≡ var w → w ≤ x) → IfUnified (next (bind (put x t) u) (bind (put x t) v)) BindsYounger → IfUnified (removed next b x t u v) BindsYounger
removed-younger next true x t u v ty h = tt
removed-younger next false x t u v ty h = go (next (bind (put x t) u) (bind (put x t) v)) h
  where
    go : (r : Option (ℕ → Tree)) → IfUnified r BindsYounger → IfUnified (option_map (λ σ y. bind σ (put x t y)) r) BindsYounger
    go None h = tt
    go (Some σ) h = put-younger σ x t h ty

round-younger : (next : Tree → Tree → Option (ℕ → Tree)) (d : Difference) (a b : Tree) → Younger d → ((u v : Tree) → IfUnified (next u v) BindsYounger) → IfUnified (round next d a b) BindsYounger
round-younger next Same a b y h = λ w z e. subst (λ v. v ≤ w) (var-variable e) (le_refl w)
round-younger next Clash a b y h = tt
round-younger next (Binds x t) a b y h = removed-younger next (occurs x t) x t a b y (h (bind (put x t) a) (bind (put x t) b))

unify_in-younger : (n : ℕ) (a b : Tree) → IfUnified (unify_in n a b) BindsYounger
unfolding unify_in
unify_in-younger zero a b = tt
unify_in-younger (suc n) a b = round-younger (unify_in n) (differ a b) a b (differ-younger a b) (λ u v. unify_in-younger n u v)

pub unify-younger : (a b : Tree) → IfUnified (unify a b) BindsYounger
unfolding unify
unify-younger a b = unify_in-younger (suc (places a + places b)) a b

-- a most general unifier that binds the younger is the one that unify gives
pub unify-is : (a b : Tree) (σ : ℕ → Tree) → IsMostGeneral a b σ → BindsYounger σ → unify a b ≡ Some σ
unify-is a b σ s y = go (unify a b) (unify-found a b σ s.0) (unify-general a b) (unify-younger a b)
  where
    go : (r : Option (ℕ → Tree)) → Found r → IfUnified r (IsMostGeneral a b) → IfUnified r BindsYounger → r ≡ Some σ
    go None f g z = absurd f
    go (Some ρ) f g z = ap Some (λ i x. most_general-unique a b ρ σ g s z y x i)

-- where there is none, unify gives none
pub unify-none : (a b : Tree) → ((τ : ℕ → Tree) → bind τ a ≡ bind τ b → ⊥) → unify a b ≡ None
unify-none a b never = go (unify a b) (unify-general a b)
  where
    go : (r : Option (ℕ → Tree)) → IfUnified r (IsMostGeneral a b) → r ≡ None
    go None g = refl
    go (Some ρ) g = absurd (never ρ g.0)
