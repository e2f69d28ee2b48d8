-- A clause's head against a goal.
use Rattle.std.proofs.Common.{◌≡◌, ℕ, zero, suc, ◌+◌, List, [], ◌∷◌, length, map, refl, sym, ap, ap₂, ◌∙◌, subst, arith, Option, Some, None}
use Rattle.std.proofs.lemmas.List.{length-map}
use Rattle.plterm.specs.Tree.{Tree, Trees, var, int, atom, compound, none, more, trees, list_of}
use Rattle.plterm.proofs.Forests.{list_of-trees}
use Rattle.plterm.specs.Variables.{AllBelow, EachBelow}
use Rattle.plterm.specs.declared.indicator.Indicator.{Indicator}
use Rattle.plsubst.specs.Subst.{bind, bind_all, shift}
use Rattle.plsubst.specs.Unify.{unify, unify_in, same_if, round}
use Rattle.plsubst.proofs.Unify.{bind-bind, name_same}
use Rattle.plsubst.proofs.UnifyUnique.{unify-none}
use Rattle.plclause.specs.Indicators.{indicator}
use Rattle.plclause.specs.Soundness.{IsCallable}
use Rattle.plcells.specs.declared.cell.Cell.{Cell}
use Rattle.plcells.specs.Store.{Store, value}
use Rattle.plsearch.specs.Forms.{arguments}
use Rattle.plenv.specs.Env.{Env, over}
use Rattle.plenv.specs.Changes.{Enters}
use Rattle.plenv.specs.Rows.{AllBelowEach}
use Rattle.plhead.specs.Fitting.{NotUnifiable}
use Rattle.pllinks.proofs.Changing.{bind-agree}
use Rattle.plstack.specs.Places.{called}

-- the arguments of a goal are those of its values
pub called-arguments : (h : Store) (n : List ℕ) (vs : List Cell) → arguments (called h n vs) ≡ map (value h) vs
called-arguments h n [] = refl
called-arguments h n (v ∷ vs) = list_of-trees (map (value h) (v ∷ vs))

pub called-indicator : (h : Store) (n : List ℕ) (vs : List Cell) → indicator (called h n vs) ≡ record { name = n; arity = length (map (value h) vs) }
called-indicator h n [] = refl
called-indicator h n (v ∷ vs) = ap (λ (ts : List Tree). record { name = n; arity = length ts }) (list_of-trees (map (value h) (v ∷ vs)))

abbrev pub arity_of : Indicator → ℕ
arity_of p = p.arity

abbrev name_of : Indicator → List ℕ
name_of p = p.name

each-below : (w : ℕ) (ts : Trees) → EachBelow w ts → AllBelowEach w (list_of ts)
each-below w none b = tt
each-below w (more t ts) b = (b.0, each-below w ts b.1)

pub arguments-below : (w : ℕ) (t : Tree) → AllBelow w t → AllBelowEach w (arguments t)
arguments-below w (var x) b = tt
arguments-below w (int i) b = tt
arguments-below w (atom s) b = tt
arguments-below w (compound s ts) b = each-below w ts b

-- terms over new variables
pub new-terms : (old mid : Env) (base width : ℕ) (ts : List Tree) → Enters old mid base width → AllBelowEach width ts → map (bind (over mid base)) ts ≡ map (shift old.count) ts
new-terms old mid base width [] e b = refl
new-terms old mid base width (t ∷ ts) e b =
    ap₂ (λ x xs. x ∷ xs) (bind-agree (over mid base) (λ x. var (old.count + x)) width t (λ x lt. e.variables x lt) b.0) (new-terms old mid base width ts e b.1)

all-bound : (σ : ℕ → Tree) (ts : Trees) → trees (map (bind σ) (list_of ts)) ≡ bind_all σ ts
unfolding bind
all-bound σ none = refl
all-bound σ (more t ts) = ap (more (bind σ t)) (all-bound σ ts)

abbrev Found : Option (ℕ → Tree) → Type 0
Found None = ⊥
Found (Some σ) = Unit {0}

atoms-unify : (f : List ℕ) → unify (atom f) (atom f) ≡ Some var
unfolding unify
atoms-unify f = ap (λ b. round (unify_in zero) (same_if b) (atom f) (atom f)) (name_same f f refl)

nothing-unifies : unify (compound [] none) (compound [] none) ≡ Some var
unfolding unify
nothing-unifies = refl

none-length : (ts : List Tree) → length ts ≡ 0 → ts ≡ []
none-length [] e = refl
none-length (t ∷ ts) e = absurd (omega arith)

pub head-arity : (t : Tree) → IsCallable t → arity_of (indicator t) ≡ length (arguments t)
head-arity (var x) c = absurd c
head-arity (int i) c = absurd c
head-arity (atom s) c = refl
head-arity (compound s ts) c = refl

-- a goal and a head of one indicator unify as their arguments do
module _ (h : Store) (n : ℕ) (name : List ℕ) (head : Tree) (callable : IsCallable head) (proper : arguments head ≡ [] → (s : List ℕ) × (head ≡ atom s)) where
  abbrev us : List Tree
  us = map (shift n) (arguments head)

  module _ (own : indicator head ≡ indicator (called h name [])) where
    bare : (s : List ℕ) × (head ≡ atom s)
    bare = proper (none-length (arguments head) (sym (head-arity head callable) ∙ ap arity_of own))

    bare-name : bare.0 ≡ name
    bare-name = sym (ap (λ t. name_of (indicator t)) bare.1) ∙ ap name_of own

    bare-is : head ≡ atom name
    bare-is = bare.1 ∙ ap atom bare-name

    pub bare-unifies : (σ : ℕ → Tree) → ((f : List ℕ) → unify (compound f none) (compound f (trees us)) ≡ Some σ) → unify (atom name) (shift n head) ≡ Some σ
    unfolding bind
    bare-unifies σ is =
        let same : Some var ≡ Some σ = sym nothing-unifies ∙ ap (λ t. unify (compound [] none) (compound [] (trees (map (shift n) (arguments t))))) (sym bare-is) ∙ is [] in
        ap (λ t. unify (atom name) (shift n t)) bare-is ∙ atoms-unify name ∙ same

    pub bare-fails : ((f : List ℕ) → unify (compound f none) (compound f (trees us)) ≡ None) → unify (atom name) (shift n head) ≡ None
    unfolding bind
    bare-fails is =
        let same : Some var ≡ None = sym nothing-unifies ∙ ap (λ t. unify (compound [] none) (compound [] (trees (map (shift n) (arguments t))))) (sym bare-is) ∙ is [] in
        absurd (subst Found same tt)

  module _ (v : Cell) (vs : List Cell) (own : indicator head ≡ indicator (called h name (v ∷ vs))) where
    abbrev ts : List Tree
    ts = map (value h) (v ∷ vs)

    -- the head with its name
    named : (t : Tree) → IsCallable t → indicator t ≡ indicator (called h name (v ∷ vs)) → shift n t ≡ compound name (trees (map (shift n) (arguments t)))
    unfolding bind
    named (var x) c e = absurd c
    named (int i) c e = absurd c
    named (atom s) c e = absurd (omega (arith, ap arity_of e, ap length (list_of-trees ts)))
    named (compound s hs) c e = ap₂ compound (ap name_of e) (sym (all-bound (λ x. var (n + x)) hs))

    pub full-same : shift n head ≡ compound name (trees us)
    full-same = named head callable own

-- so the goal unifies with the head as its arguments do with the head's
pub head-unifies : (h : Store) (n : ℕ) (name : List ℕ) (head : Tree) (vs : List Cell) → IsCallable head → (arguments head ≡ [] → (s : List ℕ) × (head ≡ atom s)) → indicator head ≡ indicator (called h name vs) →
    (σ : ℕ → Tree) → ((f : List ℕ) → unify (compound f (trees (map (value h) vs))) (compound f (trees (map (shift n) (arguments head)))) ≡ Some σ) → unify (called h name vs) (shift n head) ≡ Some σ
head-unifies h n name head [] c p own σ is = bare-unifies h n name head c p own σ is
head-unifies h n name head (v ∷ vs) c p own σ is = ap (unify (called h name (v ∷ vs))) (full-same h n name head c p v vs own) ∙ is name

pub head-fails : (h : Store) (n : ℕ) (name : List ℕ) (head : Tree) (vs : List Cell) → IsCallable head → (arguments head ≡ [] → (s : List ℕ) × (head ≡ atom s)) → indicator head ≡ indicator (called h name vs) →
    NotUnifiable (map (value h) vs) (map (shift n) (arguments head)) → unify (called h name vs) (shift n head) ≡ None
head-fails h n name head [] c p own is = bare-fails h n name head c p own is
head-fails h n name head (v ∷ vs) c p own is = ap (unify (called h name (v ∷ vs))) (full-same h n name head c p v vs own) ∙ is name

indicator_with : List ℕ → ℕ → Indicator
indicator_with s n = record { name = s; arity = n }

-- a head of the goal's name with as many arguments has its indicator
pub same-indicator : (h : Store) (name : List ℕ) (head : Tree) (vs : List Cell) → IsCallable head → (indicator head).name ≡ name → length (arguments head) ≡ length vs → indicator head ≡ indicator (called h name vs)
unfolding indicator_with
same-indicator h name head vs callable named many =
    ap₂ indicator_with named (head-arity head callable ∙ many ∙ sym (length-map vs (value h)))
    ∙ sym (called-indicator h name vs)

-- a head of another arity does not unify with the goal
module _ (τ : ℕ → Tree) where
  bound-length : (ts : Trees) → length (list_of (bind_all τ ts)) ≡ length (list_of ts)
  unfolding bind
  bound-length none = refl
  bound-length (more t ts) = ap suc (bound-length ts)

  bound-arity : (t : Tree) → IsCallable t → length (arguments (bind τ t)) ≡ length (arguments t)
  unfolding bind
  bound-arity (var x) c = absurd c
  bound-arity (int i) c = absurd c
  bound-arity (atom s) c = refl
  bound-arity (compound s ts) c = bound-length ts

called-callable : (h : Store) (name : List ℕ) (vs : List Cell) → IsCallable (called h name vs)
called-callable h name [] = tt
called-callable h name (v ∷ vs) = tt

pub other-arity : (h : Store) (n : ℕ) (name : List ℕ) (head : Tree) (vs : List Cell) → IsCallable head → (length (arguments head) ≡ length vs → ⊥) → unify (called h name vs) (shift n head) ≡ None
other-arity h n name head vs callable not =
    unify-none (called h name vs) (shift n head) (λ τ e.
    not
    (sym (bound-arity (λ x. bind τ (var (n + x))) head callable)
    ∙ ap (λ t. length (arguments t)) (sym (e ∙ bind-bind τ (λ x. var (n + x)) head))
    ∙ bound-arity τ (called h name vs) (called-callable h name vs)
    ∙ ap length (called-arguments h name vs)
    ∙ length-map vs (value h)))
