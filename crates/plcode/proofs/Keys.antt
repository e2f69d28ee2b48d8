-- Keys that differ part terms.
use Rattle.std.proofs.Common.{◌≡◌, ℕ, ℤ, ◌+◌, false, List, [], ◌∷◌, length, refl, ap, ◌∙◌, sym, subst, arith, eq-eqb}
use Rattle.plterm.specs.Tree.{Tree, var, int, atom, compound, Trees, none, more, list_of}
use Rattle.plsubst.specs.Subst.{bind, bind_all, shift}
use Rattle.plsubst.proofs.Unify.{bind-bind, compound-parts, more-head, int_same}
use Rattle.plsubst.proofs.UnifyUnique.{unify-none}
use Rattle.platoms.specs.Names.{Table, IsTable, Extends, atom_at, functor_at, functor_name, functor_arity}
use Rattle.platoms.proofs.Extending.{atoms_more, functors_more, atom_same, functor_same}
use Rattle.plsearch.specs.Forms.{arguments}
use Rattle.platoms.specs.declared.names.Functor.{Functor}
use Rattle.plcode.specs.declared.key.Key.{Key}
use Rattle.plcode.specs.declared.key.Key.TheVariants.{Any, Int, Atom, Fun}
use Rattle.plcode.specs.Keys.{IsKey, IsFirstKey, Differ, KeysPart, HeadsPart, admits}
use Rattle.plcode.proofs.Values.{functor_name-names}

length-bind_all : (σ : ℕ → Tree) (ts : Trees) → length (list_of (bind_all σ ts)) ≡ length (list_of ts)
unfolding bind
length-bind_all σ none = refl
length-bind_all σ (more t ts) = omega (arith, length-bind_all σ ts)

-- a term with a key keeps its form
bind-int : (σ : ℕ → Tree) (u : Tree) (i : ℤ) → u ≡ int i → bind σ u ≡ int i
unfolding bind
bind-int σ u i e = ap (bind σ) e

bind-atom : (σ : ℕ → Tree) (u : Tree) (s : List ℕ) → u ≡ atom s → bind σ u ≡ atom s
unfolding bind
bind-atom σ u s e = ap (bind σ) e

bind-compound : (σ : ℕ → Tree) (u : Tree) (s : List ℕ) (ts : Trees) → u ≡ compound s ts → bind σ u ≡ compound s (bind_all σ ts)
unfolding bind
bind-compound σ u s ts e = ap (bind σ) e

name_is : (s r : List ℕ) (ts us : Trees) → compound s ts ≡ compound r us → s ≡ r
name_is s r ts us e = cc

count_is : (s r : List ℕ) (ts us : Trees) → compound s ts ≡ compound r us → length (list_of ts) ≡ length (list_of us)
count_is s r ts us e = let same : ts ≡ us = cc in ap (λ vs. length (list_of vs)) same

-- functors of one name and arity are one
functor_is : (a b : Functor) → a.name ≡ b.name → a.arity ≡ b.arity → a ≡ b
functor_is a b name arity = ap (λ n. record { name = n; arity = a.arity }) name ∙ ap (λ n. record { name = b.name; arity = n }) arity

pub part : KeysPart
part t table Any l u v h i d σ τ e = d
part t table (Int n) Any u v h i d σ τ e = d
part t table (Int n) (Int m) u v h i d σ τ e =
    let same : int n ≡ int m = sym (bind-int σ u n h) ∙ e ∙ bind-int τ v m i in d (cc)
part t table (Int n) (Atom b) u v h i d σ τ e =
    let same : int n ≡ atom (atom_at t b) = sym (bind-int σ u n h) ∙ e ∙ bind-atom τ v (atom_at t b) i.is in absurd (cc)
part t table (Int n) (Fun g) u v h i d σ τ e =
    let same : int n ≡ compound (functor_name t g) (bind_all τ i.args) = sym (bind-int σ u n h) ∙ e ∙ bind-compound τ v (functor_name t g) i.args i.is in absurd (cc)
part t table (Atom a) Any u v h i d σ τ e = d
part t table (Atom a) (Int m) u v h i d σ τ e =
    let same : atom (atom_at t a) ≡ int m = sym (bind-atom σ u (atom_at t a) h.is) ∙ e ∙ bind-int τ v m i in absurd (cc)
part t table (Atom a) (Atom b) u v h i d σ τ e =
    let same : atom (atom_at t a) ≡ atom (atom_at t b) = sym (bind-atom σ u (atom_at t a) h.is) ∙ e ∙ bind-atom τ v (atom_at t b) i.is in
    let names : atom_at t a ≡ atom_at t b = cc in
    d (ap Atom (table.atom_once a b h.within i.within names))
part t table (Atom a) (Fun g) u v h i d σ τ e =
    let same : atom (atom_at t a) ≡ compound (functor_name t g) (bind_all τ i.args) = sym (bind-atom σ u (atom_at t a) h.is) ∙ e ∙ bind-compound τ v (functor_name t g) i.args i.is in absurd (cc)
part t table (Fun f) Any u v h i d σ τ e = d
part t table (Fun f) (Int m) u v h i d σ τ e =
    let same : compound (functor_name t f) (bind_all σ h.args) ≡ int m = sym (bind-compound σ u (functor_name t f) h.args h.is) ∙ e ∙ bind-int τ v m i in absurd (cc)
part t table (Fun f) (Atom b) u v h i d σ τ e =
    let same : compound (functor_name t f) (bind_all σ h.args) ≡ atom (atom_at t b) = sym (bind-compound σ u (functor_name t f) h.args h.is) ∙ e ∙ bind-atom τ v (atom_at t b) i.is in absurd (cc)
part t table (Fun f) (Fun g) u v h i d σ τ e =
    let same : compound (functor_name t f) (bind_all σ h.args) ≡ compound (functor_name t g) (bind_all τ i.args) =
    sym (bind-compound σ u (functor_name t f) h.args h.is) ∙ e ∙ bind-compound τ v (functor_name t g) i.args i.is in
    let names = name_is (functor_name t f) (functor_name t g) (bind_all σ h.args) (bind_all τ i.args) same in
    let counts = count_is (functor_name t f) (functor_name t g) (bind_all σ h.args) (bind_all τ i.args) same in
    let arity : functor_arity t f ≡ functor_arity t g = h.arity ∙ sym (length-bind_all σ h.args) ∙ counts ∙ length-bind_all τ i.args ∙ sym i.arity in
    let number = table.atom_once ((functor_at t f).name) ((functor_at t g).name) ((table.functors f h.within).name) ((table.functors g i.within).name) names in
    d (ap Fun (table.functor_once f g h.within i.within (functor_is (functor_at t f) (functor_at t g) number arity)))

-- ---- heads

int_of : ℤ → Key → ℤ
int_of d Any = d
int_of d (Int i) = i
int_of d (Atom a) = d
int_of d (Fun f) = d

number_of : Key → ℕ
number_of Any = 0
number_of (Int i) = 0
number_of (Atom a) = a
number_of (Fun f) = f

admits-differ : (k l : Key) → admits k l ≡ false → Differ k l
unfolding int_of number_of
admits-differ Any l e = cc
admits-differ (Int i) Any e = cc
admits-differ (Int i) (Int j) e = λ same. let true_is = int_same i j (ap (int_of i) same) in cc
admits-differ (Int i) (Atom b) e = λ same. cc
admits-differ (Int i) (Fun g) e = λ same. cc
admits-differ (Atom a) Any e = cc
admits-differ (Atom a) (Int j) e = λ same. cc
admits-differ (Atom a) (Atom b) e = λ same. let true_is = eq-eqb _ _ (ap number_of same) in cc
admits-differ (Atom a) (Fun g) e = λ same. cc
admits-differ (Fun f) Any e = cc
admits-differ (Fun f) (Int j) e = λ same. cc
admits-differ (Fun f) (Atom b) e = λ same. cc
admits-differ (Fun f) (Fun g) e = λ same. let true_is = eq-eqb _ _ (ap number_of same) in cc

any_left : (k l : Key) → k ≡ Any → Differ k l → ⊥
any_left k l e d = subst (λ j. Differ j l) e d

any_differs : (k : Key) → Differ k Any → ⊥
any_differs Any d = d
any_differs (Int i) d = d
any_differs (Atom a) d = d
any_differs (Fun f) d = d

any_right : (k l : Key) → l ≡ Any → Differ k l → ⊥
any_right k l e d = any_differs k (subst (Differ k) e d)

module _ (t : Table) (table : IsTable t) (k l : Key) (d : Differ k l) (σ τ : ℕ → Tree) where
  arguments_part : (us vs : Trees) → IsFirstKey t k (list_of us) → IsFirstKey t l (list_of vs) → bind_all σ us ≡ bind_all τ vs → ⊥
  unfolding bind
  arguments_part none vs h i e = any_left k l h d
  arguments_part (more u us) none h i e = any_right k l i d
  arguments_part (more u us) (more v vs) h i e = part t table k l u v h i d σ τ (more-head e)

  heads_part : (g h : Tree) → IsFirstKey t k (arguments g) → IsFirstKey t l (arguments h) → bind σ g ≡ bind τ h → ⊥
  unfolding bind
  heads_part (var x) h p q e = any_left k l p d
  heads_part (int i) h p q e = any_left k l p d
  heads_part (atom s) h p q e = any_left k l p d
  heads_part (compound s us) (var x) p q e = any_right k l q d
  heads_part (compound s us) (int i) p q e = any_right k l q d
  heads_part (compound s us) (atom r) p q e = any_right k l q d
  heads_part (compound s us) (compound r vs) p q e = arguments_part us vs p q (compound-parts e)

pub heads : HeadsPart
heads t table k l g h p q parts n =
    unify-none g (shift n h) (λ τ e. heads_part t table k l (admits-differ k l parts) τ (λ x. bind τ (var (n + x))) g h p q (e ∙ bind-bind τ (λ x. var (n + x)) h))

-- ---- more names

module _ (s t : Table) (table : IsTable s) (more : Extends s t) where
  IsKey-more : (k : Key) (u : Tree) → IsKey s k u → IsKey t k u
  IsKey-more Any u h = h
  IsKey-more (Int i) u h = h
  IsKey-more (Atom a) u h = record {
    within = omega (arith, h.within, atoms_more s t more);
    is = h.is ∙ ap atom (sym (atom_same s t more a h.within));
  }
  IsKey-more (Fun f) u h = record {
    within = omega (arith, h.within, functors_more s t more);
    args = h.args;
    is = h.is ∙ ap (λ (n : List ℕ). compound n h.args) (sym (functor_name-names s t more table f h.within));
    arity = ap (λ g. g.arity) (functor_same s t more f h.within) ∙ h.arity;
  }

  pub IsFirstKey-more : (k : Key) (us : List Tree) → IsFirstKey s k us → IsFirstKey t k us
  IsFirstKey-more k [] h = h
  IsFirstKey-more k (u ∷ us) h = IsKey-more k u h
