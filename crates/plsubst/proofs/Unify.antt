-- The unifier that the definition computes is most general.
use Rattle.std.proofs.Common.{◌≡◌, ℕ, zero, suc, ◌+◌, Bool, true, false, List, refl, sym, ap, ap₂, ◌∙◌, arith, eqb-true, nat_eq, nat_lt, bytes_eq, int_eq, ℤ, Option, Some, None, option_map}
use Rattle.std.specs.Bool.{⊤}
use Rattle.std.proofs.lemmas.Bool.Decides.{Decides-int_eq}
use Rattle.std.proofs.lemmas.Slice.Eq.{bytes_eq-Decides}
use Rattle.plterm.specs.Tree.{Tree, Trees, var, int, atom, compound, none, more}
use Rattle.plsubst.specs.Subst.{bind, bind_all, occurs, put_if, put}
use Rattle.plsubst.specs.Unify.{places, Difference, Same, Clash, Binds, same_if, younger, or_else, differ, differ_in, removed, round, unify_in, unify, IsMostGeneral}

mutual
  unfolding bind

  pub bind-bind : (σ τ : ℕ → Tree) (t : Tree) → bind σ (bind τ t) ≡ bind (λ x. bind σ (τ x)) t
  bind-bind σ τ (var x) = refl
  bind-bind σ τ (int i) = refl
  bind-bind σ τ (atom s) = refl
  bind-bind σ τ (compound f ts) = ap (compound f) (bind_all-bind_all σ τ ts)

  pub bind_all-bind_all : (σ τ : ℕ → Tree) (ts : Trees) → bind_all σ (bind_all τ ts) ≡ bind_all (λ x. bind σ (τ x)) ts
  bind_all-bind_all σ τ none = refl
  bind_all-bind_all σ τ (more t ts) = ap₂ more (bind-bind σ τ t) (bind_all-bind_all σ τ ts)

mutual
  unfolding bind

  pub bind-var : (t : Tree) → bind var t ≡ t
  bind-var (var x) = refl
  bind-var (int i) = refl
  bind-var (atom s) = refl
  bind-var (compound f ts) = ap (compound f) (bind_all-var ts)

  pub bind_all-var : (ts : Trees) → bind_all var ts ≡ ts
  bind_all-var none = refl
  bind_all-var (more t ts) = ap₂ more (bind-var t) (bind_all-var ts)

pub int_same : (i j : ℤ) → i ≡ j → int_eq i j ≡ true
int_same i j = (Decides-int_eq i j).1

pub same_int : (i j : ℤ) → int_eq i j ≡ true → i ≡ j
same_int i j = (Decides-int_eq i j).0

pub name_same : (f g : List ℕ) → f ≡ g → bytes_eq f g ≡ true
name_same f g = (bytes_eq-Decides f g).1

pub same_name : (f g : List ℕ) → bytes_eq f g ≡ true → f ≡ g
same_name f g = (bytes_eq-Decides f g).0

pub int≢compound : {i : ℤ} {f : List ℕ} {ts : Trees} {P : Type 0} → int i ≡ compound f ts → P
int≢compound e = absurd (grind (arith, e))

pub int≢atom : {i : ℤ} {f : List ℕ} {P : Type 0} → int i ≡ atom f → P
int≢atom e = absurd (grind (arith, e))

pub atom≢compound : {f g : List ℕ} {ts : Trees} {P : Type 0} → atom f ≡ compound g ts → P
atom≢compound e = absurd (grind (arith, e))

pub none≢more : {t : Tree} {ts : Trees} {P : Type 0} → none ≡ more t ts → P
none≢more e = absurd (grind (arith, e))

-- from equal compounds their parts
head_of : Tree → Trees → Tree
head_of d none = d
head_of d (more t ts) = t

tail_of : Trees → Trees
tail_of none = none
tail_of (more t ts) = ts

parts_of : Trees → Tree → Trees
parts_of d (var x) = d
parts_of d (int i) = d
parts_of d (atom s) = d
parts_of d (compound f ts) = ts

pub more-head : {t u : Tree} {ts us : Trees} → more t ts ≡ more u us → t ≡ u
unfolding head_of
more-head {t} e = ap (head_of t) e

pub more-tail : {t u : Tree} {ts us : Trees} → more t ts ≡ more u us → ts ≡ us
unfolding tail_of
more-tail e = ap tail_of e

pub compound-parts : {f g : List ℕ} {ts us : Trees} → compound f ts ≡ compound g us → ts ≡ us
unfolding parts_of
compound-parts {ts = ts} e = ap (parts_of ts) e

name_of : List ℕ → Tree → List ℕ
name_of d (var x) = d
name_of d (int i) = d
name_of d (atom s) = s
name_of d (compound f ts) = f

pub compound-name : {f g : List ℕ} {ts us : Trees} → compound f ts ≡ compound g us → f ≡ g
unfolding name_of
compound-name {f = f} e = ap (name_of f) e

pub atom-name : {f g : List ℕ} → atom f ≡ atom g → f ≡ g
unfolding name_of
atom-name {f} e = ap (name_of f) e

number_of : ℤ → Tree → ℤ
number_of d (var x) = d
number_of d (int i) = i
number_of d (atom s) = d
number_of d (compound f ts) = d

pub int-number : {i j : ℤ} → int i ≡ int j → i ≡ j
unfolding number_of
int-number {i} e = ap (number_of i) e

-- what a unifier makes of the first difference
abbrev pub Meets : (ℕ → Tree) → Difference → Type 0
Meets σ Same = ⊤
Meets σ Clash = ⊥
Meets σ (Binds x t) = σ x ≡ bind σ t

or_else_meets : (σ : ℕ → Tree) (d e : Difference) → Meets σ d → Meets σ e → Meets σ (or_else d e)
or_else_meets σ Same e md me = me
or_else_meets σ Clash e md me = md
or_else_meets σ (Binds x t) e md me = md

same_if_meets : (σ : ℕ → Tree) (b : Bool) → b ≡ true → Meets σ (same_if b)
same_if_meets σ true is = tt
same_if_meets σ false is = grind (arith, is)

younger_meets : (σ : ℕ → Tree) (p q : Bool) (x y : ℕ) → σ x ≡ σ y → Meets σ (younger p q x y)
unfolding bind
younger_meets σ true q x y e = tt
younger_meets σ false true x y e = sym e
younger_meets σ false false x y e = e

mutual
  unfolding bind differ

  pub differ-meets : (σ : ℕ → Tree) (a b : Tree) → bind σ a ≡ bind σ b → Meets σ (differ a b)
  differ-meets σ (var x) (var y) e = younger_meets σ (nat_eq x y) (nat_lt x y) x y e
  differ-meets σ (var x) (int i) e = e
  differ-meets σ (var x) (atom g) e = e
  differ-meets σ (var x) (compound g us) e = e
  differ-meets σ (int i) (var y) e = sym e
  differ-meets σ (int i) (int j) e = same_if_meets σ (int_eq i j) (int_same i j (int-number e))
  differ-meets σ (int i) (atom g) e = int≢atom e
  differ-meets σ (int i) (compound g us) e = int≢compound e
  differ-meets σ (atom f) (var y) e = sym e
  differ-meets σ (atom f) (int j) e = int≢atom (sym e)
  differ-meets σ (atom f) (atom g) e = same_if_meets σ (bytes_eq f g) (name_same f g (atom-name e))
  differ-meets σ (atom f) (compound g us) e = atom≢compound e
  differ-meets σ (compound f ts) (var y) e = sym e
  differ-meets σ (compound f ts) (int j) e = int≢compound (sym e)
  differ-meets σ (compound f ts) (atom g) e = atom≢compound (sym e)
  differ-meets σ (compound f ts) (compound g us) e = or_else_meets σ (same_if (bytes_eq f g)) (differ_in ts us) (same_if_meets σ (bytes_eq f g) (name_same f g (compound-name e))) (differ_in-meets σ ts us (compound-parts e))

  pub differ_in-meets : (σ : ℕ → Tree) (ts us : Trees) → bind_all σ ts ≡ bind_all σ us → Meets σ (differ_in ts us)
  differ_in-meets σ none none e = tt
  differ_in-meets σ none (more u us) e = none≢more e
  differ_in-meets σ (more t ts) none e = none≢more (sym e)
  differ_in-meets σ (more t ts) (more u us) e = or_else_meets σ (differ t u) (differ_in ts us) (differ-meets σ t u (more-head e)) (differ_in-meets σ ts us (more-tail e))

-- without a difference they are equal
abbrev pub IfSame : Difference → Type 0 → Type 0
IfSame Same P = P
IfSame Clash P = ⊤
IfSame (Binds x t) P = ⊤

or_else_same : {P Q R : Type 0} (d e : Difference) → IfSame d P → IfSame e Q → (P → Q → R) → IfSame (or_else d e) R
or_else_same Same Same p q f = f p q
or_else_same Same Clash p q f = tt
or_else_same Same (Binds x t) p q f = tt
or_else_same Clash e p q f = tt
or_else_same (Binds x t) e p q f = tt

same_if_same : {P : Type 0} (b : Bool) → (b ≡ true → P) → IfSame (same_if b) P
same_if_same true f = f refl
same_if_same false f = tt

younger_same : (p q : Bool) (x y : ℕ) → (p ≡ true → x ≡ y) → IfSame (younger p q x y) (var x ≡ var y)
younger_same true q x y f = ap var (f refl)
younger_same false true x y f = tt
younger_same false false x y f = tt

mutual
  unfolding differ

  pub differ-same : (a b : Tree) → IfSame (differ a b) (a ≡ b)
  differ-same (var x) (var y) = younger_same (nat_eq x y) (nat_lt x y) x y (eqb-true x y)
  differ-same (var x) (int i) = tt
  differ-same (var x) (atom g) = tt
  differ-same (var x) (compound g us) = tt
  differ-same (int i) (var y) = tt
  differ-same (int i) (int j) = same_if_same (int_eq i j) (λ is. ap int (same_int i j is))
  differ-same (int i) (atom g) = tt
  differ-same (int i) (compound g us) = tt
  differ-same (atom f) (var y) = tt
  differ-same (atom f) (int j) = tt
  differ-same (atom f) (atom g) = same_if_same (bytes_eq f g) (λ is. ap atom (same_name f g is))
  differ-same (atom f) (compound g us) = tt
  differ-same (compound f ts) (var y) = tt
  differ-same (compound f ts) (int j) = tt
  differ-same (compound f ts) (atom g) = tt
  differ-same (compound f ts) (compound g us) = or_else_same (same_if (bytes_eq f g)) (differ_in ts us) (same_if_same (bytes_eq f g) (same_name f g)) (differ_in-same ts us) (λ p q. ap₂ compound p q)

  pub differ_in-same : (ts us : Trees) → IfSame (differ_in ts us) (ts ≡ us)
  differ_in-same none none = refl
  differ_in-same none (more u us) = tt
  differ_in-same (more t ts) none = tt
  differ_in-same (more t ts) (more u us) = or_else_same (differ t u) (differ_in ts us) (differ-same t u) (differ_in-same ts us) (λ p q. ap₂ more p q)

-- a term without x is left as it is
keep_if : (x y : ℕ) (t : Tree) → nat_eq x y ≡ false → put x t y ≡ var y
keep_if x y t is = rw is refl

-- a unifier of x and t takes t in the place of x
put-meets : (τ : ℕ → Tree) (x : ℕ) (t : Tree) → τ x ≡ bind τ t → (y : ℕ) → bind τ (put x t y) ≡ τ y
unfolding bind
put-meets τ x t e y = go (nat_eq x y) refl
  where
    go : (b : Bool) → nat_eq x y ≡ b → bind τ (put_if b y t) ≡ τ y
    go true is = sym e ∙ ap τ (eqb-true x y is)
    go false is = refl

-- a unifier of a and b unifies them with t in the place of x too
pub put-unifies : (τ : ℕ → Tree) (x : ℕ) (t a : Tree) → τ x ≡ bind τ t → bind τ (bind (put x t) a) ≡ bind τ a
put-unifies τ x t a e = bind-bind τ (put x t) a ∙ ap (λ ρ. bind ρ a) (λ i y. put-meets τ x t e y i)

abbrev pub IfUnified : Option (ℕ → Tree) → ((ℕ → Tree) → Type 0) → Type 0
IfUnified None P = ⊤
IfUnified (Some σ) P = P σ

put_both : (σ : ℕ → Tree) (x : ℕ) (t a b : Tree) → bind σ (bind (put x t) a) ≡ bind σ (bind (put x t) b) → bind (λ y. bind σ (put x t y)) a ≡ bind (λ y. bind σ (put x t y)) b
put_both σ x t a b e = sym (bind-bind σ (put x t) a) ∙ e ∙ bind-bind σ (put x t) b

removed-general : (next : Tree → Tree → Option (ℕ → Tree)) (b : Bool) (x : ℕ) (t u v : Tree) →
    ((τ : ℕ → Tree) → bind τ u ≡ bind τ v → τ x ≡ bind τ t) →
    IfUnified (next (bind (put x t) u) (bind (put x t) v)) (IsMostGeneral (bind (put x t) u) (bind (put x t) v)) →
    IfUnified (removed next b x t u v) (IsMostGeneral u v)
removed-general next true x t u v meets h = tt
removed-general next false x t u v meets h = go (next (bind (put x t) u) (bind (put x t) v)) h
  where
    go : (r : Option (ℕ → Tree)) → IfUnified r (IsMostGeneral (bind (put x t) u) (bind (put x t) v)) → IfUnified (option_map (λ σ y. bind σ (put x t y)) r) (IsMostGeneral u v)
    go None h = tt
    go (Some σ) h = (
      put_both σ x t u v h.0,
      λ τ e y.
          let at : τ x ≡ bind τ t = meets τ e in
          let general : (z : ℕ) → bind τ (σ z) ≡ τ z = h.1 τ (put-unifies τ x t u at ∙ e ∙ sym (put-unifies τ x t v at)) in
          bind-bind τ σ (put x t y) ∙ ap (λ ρ. bind ρ (put x t y)) (λ i z. general z i) ∙ put-meets τ x t at y,
    )

round-general : (next : Tree → Tree → Option (ℕ → Tree)) (d : Difference) (a b : Tree) → IfSame d (a ≡ b) → ((τ : ℕ → Tree) → bind τ a ≡ bind τ b → Meets τ d) →
    ((x : ℕ) (t : Tree) → IfUnified (next (bind (put x t) a) (bind (put x t) b)) (IsMostGeneral (bind (put x t) a) (bind (put x t) b))) →
    IfUnified (round next d a b) (IsMostGeneral a b)
unfolding bind
round-general next Same a b same meets h = (ap (bind var) same, λ τ e y. refl)
round-general next Clash a b same meets h = tt
round-general next (Binds x t) a b same meets h = removed-general next (occurs x t) x t a b meets (h x t)

-- what is given is most general, however many rounds there are
pub unify_in-general : (n : ℕ) (a b : Tree) → IfUnified (unify_in n a b) (IsMostGeneral a b)
unfolding unify_in
unify_in-general zero a b = tt
unify_in-general (suc n) a b = round-general (unify_in n) (differ a b) a b (differ-same a b) (λ τ e. differ-meets τ a b e) (λ x t. unify_in-general n (bind (put x t) a) (bind (put x t) b))

pub unify-general : (a b : Tree) → IfUnified (unify a b) (IsMostGeneral a b)
unfolding unify
unify-general a b = unify_in-general (suc (places a + places b)) a b
