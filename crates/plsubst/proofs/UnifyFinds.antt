-- Where there is a unifier, one is found: there are rounds enough.
use Rattle.std.proofs.Common.{◌≡◌, ℕ, zero, suc, ◌+◌, ◌<◌, ◌≤◌, ◌⊎◌, inl, inr, Bool, true, false, ◌||◌, List, [], ◌∷◌, ◌++◌, length, length-append, refl, sym, ap, ap₂, ◌∙◌, subst, arith, true≢false, eqb-true, eq-eqb, nat_eq, nat_lt, bytes_eq, int_eq, Option, Some, None, option_map, le_refl}
use Rattle.std.specs.Bool.{⊤}
use Rattle.plterm.specs.Tree.{Tree, Trees, var, int, atom, compound, none, more}
use Rattle.plsubst.specs.Subst.{bind, bind_all, occurs, occurs_in, put_if, put}
use Rattle.plsubst.specs.Unify.{places, places_in, Difference, Same, Clash, Binds, same_if, younger, or_else, differ, differ_in, removed, round, unify_in, unify}
use Rattle.plsubst.proofs.Unify.{Meets, differ-meets, put-unifies}

abbrev In : ℕ → List ℕ → Type 0
In x [] = ⊥
In x (y ∷ ys) = (x ≡ y) ⊎ In x ys

abbrev drop_if : Bool → ℕ → List ℕ → List ℕ → List ℕ
drop_if true y ys zs = ys
drop_if false y ys zs = y ∷ zs

-- without the first x
abbrev without : ℕ → List ℕ → List ℕ
without x [] = []
without x (y ∷ ys) = drop_if (nat_eq x y) y ys (without x ys)

in_without : (x z : ℕ) (l : List ℕ) → In z l → nat_eq x z ≡ false → In z (without x l)
in_without x z (y ∷ ys) i ne = go (nat_eq x y) refl i (λ i. in_without x z ys i ne)
  where
    go : (b : Bool) → nat_eq x y ≡ b → (z ≡ y) ⊎ In z ys → (In z ys → In z (without x ys)) → In z (drop_if b y ys (without x ys))
    go true is (inl e) rest = absurd (true≢false (sym is ∙ ap (nat_eq x) (sym e) ∙ ne))
    go true is (inr i) rest = i
    go false is (inl e) rest = inl e
    go false is (inr i) rest = inr (rest i)
in_without x z [] i ne = elim i [ ]

without-length : (x : ℕ) (l : List ℕ) → In x l → suc (length (without x l)) ≡ length l
without-length x (y ∷ ys) i = go (nat_eq x y) refl i (λ i. without-length x ys i)
  where
    go : (b : Bool) → nat_eq x y ≡ b → (x ≡ y) ⊎ In x ys → (In x ys → suc (length (without x ys)) ≡ length ys) → suc (length (drop_if b y ys (without x ys))) ≡ suc (length ys)
    go true is i rest = refl
    go false is (inl e) rest = absurd (true≢false (sym (eq-eqb x y e) ∙ is))
    go false is (inr i) rest = ap suc (rest i)
without-length x [] i = elim i [ ]

-- all variables of a term are in the list
abbrev mutual
  Within : List ℕ → Tree → Type 0
  Within l (var x) = In x l
  Within l (int i) = ⊤
  Within l (atom s) = ⊤
  Within l (compound f ts) = Within_all l ts

  Within_all : List ℕ → Trees → Type 0
  Within_all l none = ⊤
  Within_all l (more t ts) = Within l t × Within_all l ts

abbrev pub NotSelf : ℕ → Tree → Type 0
NotSelf x (var y) = nat_eq x y ≡ false
NotSelf x (int i) = ⊤
NotSelf x (atom s) = ⊤
NotSelf x (compound f ts) = ⊤

abbrev Comes : List ℕ → Difference → Type 0
Comes l Same = ⊤
Comes l Clash = ⊤
Comes l (Binds x t) = In x l × Within l t × NotSelf x t

or_else-comes : (l : List ℕ) (d e : Difference) → Comes l d → Comes l e → Comes l (or_else d e)
or_else-comes l Same e cd ce = ce
or_else-comes l Clash e cd ce = tt
or_else-comes l (Binds x t) e cd ce = cd

same_if-comes : (l : List ℕ) (b : Bool) → Comes l (same_if b)
same_if-comes l true = tt
same_if-comes l false = tt

eqb-turned : (x y : ℕ) → nat_eq x y ≡ false → nat_eq y x ≡ false
eqb-turned x y is = go (nat_eq y x) refl
  where
    go : (b : Bool) → nat_eq y x ≡ b → b ≡ false
    go true t = absurd (grind (arith, is, eq-eqb x y (sym (eqb-true y x t))))
    go false t = refl

younger-comes : (l : List ℕ) (p q : Bool) (x y : ℕ) → nat_eq x y ≡ p → In x l → In y l → Comes l (younger p q x y)
younger-comes l true q x y is i j = tt
younger-comes l false true x y is i j = (j, i, eqb-turned x y is)
younger-comes l false false x y is i j = (i, j, is)

mutual
  unfolding differ

  differ-comes : (l : List ℕ) (a b : Tree) → Within l a → Within l b → Comes l (differ a b)
  differ-comes l (var x) (var y) i j = younger-comes l (nat_eq x y) (nat_lt x y) x y refl i j
  differ-comes l (var x) (int i) h k = (h, tt, tt)
  differ-comes l (var x) (atom g) h k = (h, tt, tt)
  differ-comes l (var x) (compound g us) h k = (h, k, tt)
  differ-comes l (int i) (var y) h k = (k, tt, tt)
  differ-comes l (int i) (int j) h k = same_if-comes l (int_eq i j)
  differ-comes l (int i) (atom g) h k = tt
  differ-comes l (int i) (compound g us) h k = tt
  differ-comes l (atom f) (var y) h k = (k, tt, tt)
  differ-comes l (atom f) (int j) h k = tt
  differ-comes l (atom f) (atom g) h k = same_if-comes l (bytes_eq f g)
  differ-comes l (atom f) (compound g us) h k = tt
  differ-comes l (compound f ts) (var y) h k = (k, h, tt)
  differ-comes l (compound f ts) (int j) h k = tt
  differ-comes l (compound f ts) (atom g) h k = tt
  differ-comes l (compound f ts) (compound g us) h k = or_else-comes l (same_if (bytes_eq f g)) (differ_in ts us) (same_if-comes l (bytes_eq f g)) (differ_in-comes l ts us h k)

  differ_in-comes : (l : List ℕ) (ts us : Trees) → Within_all l ts → Within_all l us → Comes l (differ_in ts us)
  differ_in-comes l none none h k = tt
  differ_in-comes l none (more u us) h k = tt
  differ_in-comes l (more t ts) none h k = tt
  differ_in-comes l (more t ts) (more u us) h k = or_else-comes l (differ t u) (differ_in ts us) (differ-comes l t u h.0 k.0) (differ_in-comes l ts us h.1 k.1)

or-false : (p q : Bool) → (p || q) ≡ false → (p ≡ false) × (q ≡ false)
or-false true q is = absurd (grind (arith, is))
or-false false q is = (refl, is)

mutual
  unfolding occurs

  occurs-within : (l : List ℕ) (x : ℕ) (t : Tree) → occurs x t ≡ false → Within l t → Within (without x l) t
  occurs-within l x (var y) ne i = in_without x y l i ne
  occurs-within l x (int i) ne w = tt
  occurs-within l x (atom s) ne w = tt
  occurs-within l x (compound f ts) ne w = occurs_in-within l x ts ne w

  occurs_in-within : (l : List ℕ) (x : ℕ) (ts : Trees) → occurs_in x ts ≡ false → Within_all l ts → Within_all (without x l) ts
  occurs_in-within l x none ne w = tt
  occurs_in-within l x (more t ts) ne w =
      let both = or-false (occurs x t) (occurs_in x ts) ne in
      (occurs-within l x t both.0 w.0, occurs_in-within l x ts both.1 w.1)

put-within : (l : List ℕ) (x : ℕ) (t : Tree) (y : ℕ) → Within (without x l) t → In y l → Within (without x l) (put x t y)
put-within l x t y w i = go (nat_eq x y) refl
  where
    go : (b : Bool) → nat_eq x y ≡ b → Within (without x l) (put_if b y t)
    go true is = w
    go false is = in_without x y l i is

mutual
  unfolding bind

  bind-within : (l : List ℕ) (x : ℕ) (t a : Tree) → Within (without x l) t → Within l a → Within (without x l) (bind (put x t) a)
  bind-within l x t (var y) w i = put-within l x t y w i
  bind-within l x t (int i) w h = tt
  bind-within l x t (atom s) w h = tt
  bind-within l x t (compound f ts) w h = bind_all-within l x t ts w h

  bind_all-within : (l : List ℕ) (x : ℕ) (t : Tree) (ts : Trees) → Within (without x l) t → Within_all l ts → Within_all (without x l) (bind_all (put x t) ts)
  bind_all-within l x t none w h = tt
  bind_all-within l x t (more u us) w h = (bind-within l x t u w h.0, bind_all-within l x t us w h.1)

or_size : (p q : Bool) {m n k : ℕ} → (p || q) ≡ true → (p ≡ true → k ≤ m) → (q ≡ true → k ≤ n) → k ≤ m + n
or_size true q is f g = omega (arith, f refl)
or_size false q is f g = omega (arith, g is)

-- a term that holds x is larger than what stands for x
mutual
  size : Tree → ℕ
  size (var x) = 0
  size (int i) = 0
  size (atom s) = 0
  size (compound f ts) = suc (size_all ts)

  size_all : Trees → ℕ
  size_all none = 0
  size_all (more t ts) = size t + size_all ts

mutual
  unfolding occurs bind size

  occurs-size : (τ : ℕ → Tree) (x : ℕ) (t : Tree) → occurs x t ≡ true → size (τ x) ≤ size (bind τ t)
  occurs-size τ x (var y) is = subst (λ z. size (τ x) ≤ size (τ z)) (eqb-true x y is) (le_refl _)
  occurs-size τ x (int i) is = absurd (grind (arith, is))
  occurs-size τ x (atom s) is = absurd (grind (arith, is))
  occurs-size τ x (compound f ts) is = omega (arith, occurs_in-size τ x ts is)

  occurs_in-size : (τ : ℕ → Tree) (x : ℕ) (ts : Trees) → occurs_in x ts ≡ true → size (τ x) ≤ size_all (bind_all τ ts)
  occurs_in-size τ x none is = absurd (grind (arith, is))
  occurs_in-size τ x (more t ts) is = or_size (occurs x t) (occurs_in x ts) is (occurs-size τ x t) (occurs_in-size τ x ts)

pub holds_itself : (τ : ℕ → Tree) (x : ℕ) (t : Tree) → NotSelf x t → occurs x t ≡ true → τ x ≡ bind τ t → ⊥
unfolding occurs bind size
holds_itself τ x (var y) self is e = grind (arith, self, is)
holds_itself τ x (int i) self is e = grind (arith, is)
holds_itself τ x (atom s) self is e = grind (arith, is)
holds_itself τ x (compound f ts) self is e = omega (arith, ap size e, occurs_in-size τ x ts is)

abbrev pub Found : Option (ℕ → Tree) → Type 0
Found None = ⊥
Found (Some σ) = ⊤

found_map : (r : Option (ℕ → Tree)) (f : (ℕ → Tree) → ℕ → Tree) → Found r → Found (option_map f r)
found_map None f h = h
found_map (Some σ) f h = tt

removed-found : (next : Tree → Tree → Option (ℕ → Tree)) (b : Bool) (x : ℕ) (t u v : Tree) → (b ≡ true → ⊥) → (b ≡ false → Found (next (bind (put x t) u) (bind (put x t) v))) → Found (removed next b x t u v)
removed-found next true x t u v never h = never refl
removed-found next false x t u v never h = found_map (next (bind (put x t) u) (bind (put x t) v)) (λ σ y. bind σ (put x t y)) (h refl)

round-found : (n : ℕ) (next : Tree → Tree → Option (ℕ → Tree)) (d : Difference) (l : List ℕ) (a b : Tree) (τ : ℕ → Tree) → length l < suc n → bind τ a ≡ bind τ b → Within l a → Within l b → Comes l d → Meets τ d →
    ((l : List ℕ) (u v : Tree) → length l < n → bind τ u ≡ bind τ v → Within l u → Within l v → Found (next u v)) → Found (round next d a b)
round-found n next Same l a b τ few e wa wb comes meets h = tt
round-found n next Clash l a b τ few e wa wb comes meets h = meets
round-found n next (Binds x t) l a b τ few e wa wb comes meets h =
    removed-found next (occurs x t) x t a b (λ is. holds_itself τ x t comes.2 is meets)
    (λ is.
    let left : Within (without x l) t = occurs-within l x t is comes.1 in
    h (without x l) (bind (put x t) a) (bind (put x t) b) (omega (arith, without-length x l comes.0)) (put-unifies τ x t a meets ∙ e ∙ sym (put-unifies τ x t b meets)) (bind-within l x t a left wa) (bind-within l x t b left wb))

unify_in-found : (n : ℕ) (l : List ℕ) (a b : Tree) (τ : ℕ → Tree) → length l < n → bind τ a ≡ bind τ b → Within l a → Within l b → Found (unify_in n a b)
unfolding unify_in
unify_in-found zero l a b τ few e wa wb = absurd (omega arith)
unify_in-found (suc n) l a b τ few e wa wb =
    round-found n (unify_in n) (differ a b) l a b τ few e wa wb (differ-comes l a b wa wb) (differ-meets τ a b e) (λ l u v few e wu wv. unify_in-found n l u v τ few e wu wv)

-- the variables of a term, one for each place
mutual
  vars : Tree → List ℕ
  vars (var x) = x ∷ []
  vars (int i) = []
  vars (atom s) = []
  vars (compound f ts) = vars_in ts

  vars_in : Trees → List ℕ
  vars_in none = []
  vars_in (more t ts) = vars t ++ vars_in ts

in_left : (x : ℕ) (l m : List ℕ) → In x l → In x (l ++ m)
in_left x [] m i = elim i [ ]
in_left x (y ∷ ys) m (inl e) = inl e
in_left x (y ∷ ys) m (inr i) = inr (in_left x ys m i)

in_right : (x : ℕ) (l m : List ℕ) → In x m → In x (l ++ m)
in_right x [] m i = i
in_right x (y ∷ ys) m i = inr (in_right x ys m i)

mutual
  within-rest : (l m : List ℕ) → ((x : ℕ) → In x l → In x m) → (t : Tree) → Within l t → Within m t
  within-rest l m f (var x) i = f x i
  within-rest l m f (int i) w = tt
  within-rest l m f (atom s) w = tt
  within-rest l m f (compound g ts) w = within_all-rest l m f ts w

  within_all-rest : (l m : List ℕ) → ((x : ℕ) → In x l → In x m) → (ts : Trees) → Within_all l ts → Within_all m ts
  within_all-rest l m f none w = tt
  within_all-rest l m f (more t ts) w = (within-rest l m f t w.0, within_all-rest l m f ts w.1)

mutual
  unfolding vars

  vars-within : (t : Tree) → Within (vars t) t
  vars-within (var x) = inl refl
  vars-within (int i) = tt
  vars-within (atom s) = tt
  vars-within (compound f ts) = vars_in-within ts

  vars_in-within : (ts : Trees) → Within_all (vars_in ts) ts
  vars_in-within none = tt
  vars_in-within (more t ts) = (
    within-rest (vars t) (vars t ++ vars_in ts) (λ x i. in_left x (vars t) (vars_in ts) i) t (vars-within t),
    within_all-rest (vars_in ts) (vars t ++ vars_in ts) (λ x i. in_right x (vars t) (vars_in ts) i) ts (vars_in-within ts),
  )

mutual
  unfolding vars places

  vars-length : (t : Tree) → length (vars t) ≡ places t
  vars-length (var x) = refl
  vars-length (int i) = refl
  vars-length (atom s) = refl
  vars-length (compound f ts) = vars_in-length ts

  vars_in-length : (ts : Trees) → length (vars_in ts) ≡ places_in ts
  vars_in-length none = refl
  vars_in-length (more t ts) = length-append (vars t) (vars_in ts) ∙ ap₂ (λ m n. m + n) (vars-length t) (vars_in-length ts)

-- where two terms have a unifier, unify gives one
pub unify-found : (a b : Tree) (τ : ℕ → Tree) → bind τ a ≡ bind τ b → Found (unify a b)
unfolding unify
unify-found a b τ e =
    unify_in-found (suc (places a + places b)) (vars a ++ vars b) a b τ
    (omega (arith, length-append (vars a) (vars b), vars-length a, vars-length b)) e
    (within-rest (vars a) (vars a ++ vars b) (λ x i. in_left x (vars a) (vars b) i) a (vars-within a))
    (within-rest (vars b) (vars a ++ vars b) (λ x i. in_right x (vars a) (vars b) i) b (vars-within b))
