-- The verdict on two values where references end is right.
use Rattle.std.proofs.Common.{◌≡◌, ℕ, zero, suc, ◌<◌, ◌==◌, Bool, true, false, List, length, refl, sym, ap, ap₂, ◌∙◌, subst, arith, eqb-true, eq-eqb, nat_eq, ℤ}
use Rattle.plterm.specs.Tree.{Tree, Trees, var, int, atom, compound, none, more, trees}
use Rattle.plsubst.specs.Subst.{bind, bind_all}
use Rattle.plsubst.proofs.Unify.{int≢atom, int≢compound, atom≢compound, atom-name, compound-name, compound-parts, int-number}
use Rattle.plsubst.proofs.UnifyUnique.{var-variable, int≢var, atom≢var, compound≢var}
use Rattle.plsubst.proofs.UnifyFinds.{NotSelf}
use Rattle.platoms.specs.Names.{atom_at, functor_at, functor_name, functor_arity}
use Rattle.platoms.specs.declared.names.Functor.{Functor}
use Rattle.plcells.specs.declared.cell.Cell.{Cell}
use Rattle.plcells.specs.declared.cell.Cell.TheVariants.{Free, Lone, Ref, Int, Wide, Atom, Str, Fun, Ground}
use Rattle.plcells.specs.Store.{Store, at, term, terms, value, spread, IsHeap, IsHead, IsVariable, IsValue, IsEnd, IsBlock, IsInteger, shown, number_at, wide_at}
use Rattle.plcells.specs.Walking.{weight}
use Rattle.plcells.proofs.Terms.{term-at}
use Rattle.plbind.specs.declared.unify.Kind.{Kind}
use Rattle.plbind.specs.declared.unify.Kind.TheVariants.{Variables, Binding, Blocks, Integers, Same as SameKind, Clash as ClashKind}
use Rattle.plbind.specs.declared.unify.Verdict.{Verdict}
use Rattle.plbind.specs.Unifying.{HasNear, HasArgs, IsVerdict, kind_of, same_kind}

-- how many terms there are
count : Trees → ℕ
count none = 0
count (more t ts) = suc (count ts)

count-bind : (τ : ℕ → Tree) (ts : Trees) → count (bind_all τ ts) ≡ count ts
unfolding count bind
count-bind τ none = refl
count-bind τ (more t ts) = ap suc (count-bind τ ts)

count-terms : (h : Store) (k c : ℕ) → count (trees (terms h c k)) ≡ k
unfolding count
count-terms h zero c = refl
count-terms h (suc k) c = ap suc (count-terms h k (suc c))

count-same : (τ : ℕ → Tree) (h : Store) (c d k l : ℕ) → bind_all τ (trees (terms h c k)) ≡ bind_all τ (trees (terms h d l)) → k ≡ l
count-same τ h c d k l e =
    sym (count-bind τ (trees (terms h c k)) ∙ count-terms h k c) ∙ ap count e ∙ count-bind τ (trees (terms h d l)) ∙ count-terms h l d

-- what each kind says of the values
abbrev pub KindSays : Store → Cell → Cell → Kind → Type 0
KindSays h v w (Variables x y) = (v ≡ Ref x) × (w ≡ Ref y)
KindSays h v w (Binding x t) = HasNear h (value h v) (value h w) x t
KindSays h v w (Blocks p q) = (v ≡ Str p) × (w ≡ Str q)
KindSays h v w Integers = IsInteger v × IsInteger w
KindSays h v w SameKind = value h v ≡ value h w
KindSays h v w ClashKind = (τ : ℕ → Tree) → bind τ (value h v) ≡ bind τ (value h w) → ⊥

module _ (h : Store) (is : IsHeap h) where
  pub variable-number : (x : ℕ) → IsValue h (Ref x) → IsEnd h (Ref x) → (n : ℕ) × (term h x ≡ var n)
  variable-number x f end = go (at h.cells x) refl end
    where
      go : (m : Cell) → at h.cells x ≡ m → IsVariable m → (n : ℕ) × (term h x ≡ var n)
      go (Free p) e v = (number_at h p, term-at h x is f.0 ∙ ap (shown h x) e)
      go (Lone p) e v = absurd v
      go (Ref j) e v = absurd v
      go (Int k) e v = absurd v
      go (Wide p) e v = absurd v
      go (Atom a) e v = absurd v
      go (Str p) e v = absurd v
      go (Fun g) e v = absurd v
      go (Ground g) e v = absurd v

  -- a variable beside what is none
  near_solid : (x : ℕ) (w : Cell) → IsValue h (Ref x) → IsEnd h (Ref x) → IsValue h w → ((n : ℕ) → NotSelf n (value h w)) → ((u : ℕ) → value h w ≡ var u → ⊥) → HasNear h (term h x) (value h w) x w
  unfolding bind
  near_solid x w fx end fw apart other =
      let n = variable-number x fx end in
      record {
        number = n.0;
        near = record { end = end; numbered = n.1; fits = fw; apart = apart n.0; younger = λ u e. absurd (other u e) };
        to = λ τ e. sym (ap (bind τ) n.1) ∙ e;
        back = λ τ e. ap (bind τ) n.1 ∙ e;
      }

  pub turned : (s t : Tree) (x : ℕ) (v : Cell) → HasNear h t s x v → HasNear h s t x v
  turned s t x v n = record { number = n.number; near = n.near; to = λ τ e. n.to τ (sym e); back = λ τ e. sym (n.back τ e) }

  str_is : (p : ℕ) → IsValue h (Str p) → (f : List ℕ) × (ts : Trees) × (term h p ≡ compound f ts)
  str_is p f = go (at h.cells p) refl f.1
    where
      go : (m : Cell) → at h.cells p ≡ m → IsHead m → (g : List ℕ) × (ts : Trees) × (term h p ≡ compound g ts)
      go (Free q) e v = absurd v
      go (Lone q) e v = absurd v
      go (Ref j) e v = absurd v
      go (Int k) e v = absurd v
      go (Wide q) e v = absurd v
      go (Atom a) e v = absurd v
      go (Str q) e v = absurd v
      go (Fun g) e v = (functor_name h.names g, trees (spread (term h) (suc p) (functor_arity h.names g)), term-at h p is f.0 ∙ ap (shown h p) e)
      go (Ground g) e v = (functor_name h.names g, trees (spread (term h) (suc p) (functor_arity h.names g)), term-at h p is f.0 ∙ ap (shown h p) e)

  solid_apart : (w : Cell) → IsValue h w → ((j : ℕ) → w ≡ Ref j → ⊥) → (n : ℕ) → NotSelf n (value h w)
  solid_apart (Free p) f ref n = absurd f
  solid_apart (Lone p) f ref n = absurd f
  solid_apart (Ref j) f ref n = absurd (ref j refl)
  solid_apart (Int k) f ref n = tt
  solid_apart (Wide p) f ref n = tt
  solid_apart (Atom a) f ref n = tt
  solid_apart (Str p) f ref n = let c = str_is p f in subst (NotSelf n) (sym c.2) tt
  solid_apart (Fun g) f ref n = absurd f
  solid_apart (Ground g) f ref n = absurd f

  solid_other : (w : Cell) → IsValue h w → ((j : ℕ) → w ≡ Ref j → ⊥) → (u : ℕ) → value h w ≡ var u → ⊥
  solid_other (Free p) f ref u e = absurd f
  solid_other (Lone p) f ref u e = absurd f
  solid_other (Ref j) f ref u e = absurd (ref j refl)
  solid_other (Int k) f ref u e = int≢var e
  solid_other (Wide p) f ref u e = int≢var e
  solid_other (Atom a) f ref u e = atom≢var e
  solid_other (Str p) f ref u e = let c = str_is p f in compound≢var (sym c.2 ∙ e)
  solid_other (Fun g) f ref u e = absurd f
  solid_other (Ground g) f ref u e = absurd f

  near_value : (x : ℕ) (w : Cell) → IsValue h (Ref x) → IsEnd h (Ref x) → IsValue h w → ((j : ℕ) → w ≡ Ref j → ⊥) → HasNear h (term h x) (value h w) x w
  near_value x w fx end fw ref = near_solid x w fx end fw (solid_apart w fw ref) (solid_other w fw ref)

  both_atoms : (f g : ℕ) → f < length h.names.atoms → g < length h.names.atoms → (b : Bool) → (f == g) ≡ b → KindSays h (Atom f) (Atom g) (same_kind b)
  unfolding bind
  both_atoms f g lf lg true e = ap (λ a. atom (atom_at h.names a)) (eqb-true f g e)
  both_atoms f g lf lg false e = λ τ d.
      let same = is.names.atom_once f g lf lg (atom-name d) in
      let t = eq-eqb f g same in
      grind (arith, e, t)

  str_atom : (p a : ℕ) → IsValue h (Str p) → (τ : ℕ → Tree) → bind τ (term h p) ≡ atom (atom_at h.names a) → ⊥
  unfolding bind
  str_atom p a f τ e = let c = str_is p f in atom≢compound (sym e ∙ ap (bind τ) c.2)

  str_int : (p : ℕ) (i : ℤ) → IsValue h (Str p) → (τ : ℕ → Tree) → bind τ (term h p) ≡ int i → ⊥
  unfolding bind
  str_int p i f τ e = let c = str_is p f in int≢compound (sym e ∙ ap (bind τ) c.2)

  pub kind-says : (v w : Cell) → IsValue h v → IsValue h w → IsEnd h v → IsEnd h w → KindSays h v w (kind_of v w)
  unfolding bind
  kind-says (Ref x) (Ref y) fv fw ev ew = (refl, refl)
  kind-says (Ref x) (Int i) fv fw ev ew = near_value x (Int i) fv ev fw (λ j e. grind (arith, e))
  kind-says (Ref x) (Wide p) fv fw ev ew = near_value x (Wide p) fv ev fw (λ j e. grind (arith, e))
  kind-says (Ref x) (Atom a) fv fw ev ew = near_value x (Atom a) fv ev fw (λ j e. grind (arith, e))
  kind-says (Ref x) (Str p) fv fw ev ew = near_value x (Str p) fv ev fw (λ j e. grind (arith, e))
  kind-says (Ref x) (Free p) fv fw ev ew = absurd fw
  kind-says (Ref x) (Lone p) fv fw ev ew = absurd fw
  kind-says (Ref x) (Fun p) fv fw ev ew = absurd fw
  kind-says (Ref x) (Ground p) fv fw ev ew = absurd fw
  kind-says (Int i) (Ref y) fv fw ev ew = turned (int i) (term h y) y (Int i) (near_value y (Int i) fw ew fv (λ j e. grind (arith, e)))
  kind-says (Int i) (Int j) fv fw ev ew = (tt, tt)
  kind-says (Int i) (Wide q) fv fw ev ew = (tt, tt)
  kind-says (Int i) (Atom a) fv fw ev ew = λ τ e. int≢atom e
  kind-says (Int i) (Str q) fv fw ev ew = λ τ e. str_int q i fw τ (sym e)
  kind-says (Int i) (Free p) fv fw ev ew = absurd fw
  kind-says (Int i) (Lone p) fv fw ev ew = absurd fw
  kind-says (Int i) (Fun p) fv fw ev ew = absurd fw
  kind-says (Int i) (Ground p) fv fw ev ew = absurd fw
  kind-says (Wide p) (Ref y) fv fw ev ew = turned (value h (Wide p)) (term h y) y (Wide p) (near_value y (Wide p) fw ew fv (λ j e. grind (arith, e)))
  kind-says (Wide p) (Int j) fv fw ev ew = (tt, tt)
  kind-says (Wide p) (Wide q) fv fw ev ew = (tt, tt)
  kind-says (Wide p) (Atom a) fv fw ev ew = λ τ e. int≢atom e
  kind-says (Wide p) (Str q) fv fw ev ew = λ τ e. str_int q (wide_at h p) fw τ (sym e)
  kind-says (Wide p) (Free q) fv fw ev ew = absurd fw
  kind-says (Wide p) (Lone q) fv fw ev ew = absurd fw
  kind-says (Wide p) (Fun q) fv fw ev ew = absurd fw
  kind-says (Wide p) (Ground q) fv fw ev ew = absurd fw
  kind-says (Atom a) (Ref y) fv fw ev ew = turned (value h (Atom a)) (term h y) y (Atom a) (near_value y (Atom a) fw ew fv (λ j e. grind (arith, e)))
  kind-says (Atom a) (Int j) fv fw ev ew = λ τ e. int≢atom (sym e)
  kind-says (Atom a) (Wide q) fv fw ev ew = λ τ e. int≢atom (sym e)
  kind-says (Atom a) (Atom b) fv fw ev ew = both_atoms a b fv fw (a == b) refl
  kind-says (Atom a) (Str q) fv fw ev ew = λ τ e. str_atom q a fw τ (sym e)
  kind-says (Atom a) (Free q) fv fw ev ew = absurd fw
  kind-says (Atom a) (Lone q) fv fw ev ew = absurd fw
  kind-says (Atom a) (Fun q) fv fw ev ew = absurd fw
  kind-says (Atom a) (Ground q) fv fw ev ew = absurd fw
  kind-says (Str p) (Ref y) fv fw ev ew = turned (value h (Str p)) (term h y) y (Str p) (near_value y (Str p) fw ew fv (λ j e. grind (arith, e)))
  kind-says (Str p) (Int j) fv fw ev ew = λ τ e. str_int p j fv τ e
  kind-says (Str p) (Wide q) fv fw ev ew = λ τ e. str_int p (wide_at h q) fv τ e
  kind-says (Str p) (Atom b) fv fw ev ew = λ τ e. str_atom p b fv τ e
  kind-says (Str p) (Str q) fv fw ev ew = (refl, refl)
  kind-says (Str p) (Free q) fv fw ev ew = absurd fw
  kind-says (Str p) (Lone q) fv fw ev ew = absurd fw
  kind-says (Str p) (Fun q) fv fw ev ew = absurd fw
  kind-says (Str p) (Ground q) fv fw ev ew = absurd fw
  kind-says (Free p) w fv fw ev ew = absurd fv
  kind-says (Lone p) w fv fw ev ew = absurd fv
  kind-says (Fun p) w fv fw ev ew = absurd fv
  kind-says (Ground p) w fv fw ev ew = absurd fv

  -- two blocks of one functor
  pub blocks-args : (p q f k l : ℕ) → IsBlock h p f k → IsBlock h q f l → HasArgs h (term h p) (term h q) p q k
  unfolding bind weight
  blocks-args p q f k l bp bq =
      let kl : l ≡ k = sym bq.arity ∙ bp.arity in
      let tq : term h q ≡ compound (functor_name h.names f) (trees (terms h (suc q) k)) = bq.is ∙ ap (λ j. compound (functor_name h.names f) (trees (terms h (suc q) j))) kl in
      record {
        left = bp.within;
        right = omega (arith, bq.within, kl);
        left_plain = bp.plain;
        right_plain = λ d lt le. bq.plain d lt (omega (arith, le, kl));
        few = bp.few;
        to = λ τ e. compound-parts (sym (ap (bind τ) bp.is) ∙ e ∙ ap (bind τ) tq);
        back = λ τ e. ap (bind τ) bp.is ∙ ap (compound (functor_name h.names f)) e ∙ sym (ap (bind τ) tq);
        heavier = ap weight bp.is;
      }

  -- of different functors
  pub blocks-clash : (p q f g k l : ℕ) → IsBlock h p f k → IsBlock h q g l → (f ≡ g → ⊥) → (τ : ℕ → Tree) → bind τ (term h p) ≡ bind τ (term h q) → ⊥
  unfolding bind
  blocks-clash p q f g k l bp bq ne τ e =
      let d = sym (ap (bind τ) bp.is) ∙ e ∙ ap (bind τ) bq.is in
      let arity : k ≡ l = count-same τ h (suc p) (suc q) k l (compound-parts d) in
      let name : (functor_at h.names f).name ≡ (functor_at h.names g).name =
      is.names.atom_once ((functor_at h.names f).name) ((functor_at h.names g).name) ((is.names.functors f bp.functor).name) ((is.names.functors g bq.functor).name) (compound-name d) in
      let same : functor_at h.names f ≡ functor_at h.names g = ap₂ (λ n j. let x : Functor = record { name = n; arity = j } in x) name (bp.arity ∙ arity ∙ sym bq.arity) in
      ne (is.names.functor_once f g bp.functor bq.functor same)

-- a younger variable and an older one
pub near-older : (h : Store) (x y m n : ℕ) → IsEnd h (Ref x) → IsValue h (Ref y) → term h x ≡ var m → term h y ≡ var n → n < m → HasNear h (term h x) (term h y) x (Ref y)
unfolding bind
near-older h x y m n ex fy tx ty lt =
    let differs : nat_eq m n ≡ false = grind (arith, lt) in
    record {
      number = m;
      near = record {
        end = ex;
        numbered = tx;
        fits = fy;
        apart = subst (NotSelf m) (sym ty) differs;
        younger = λ u e. let same : n ≡ u = var-variable (sym ty ∙ e) in omega (arith, same, lt);
      };
      to = λ τ e. sym (ap (bind τ) tx) ∙ e;
      back = λ τ e. ap (bind τ) tx ∙ e;
    }

pub near-younger : (h : Store) (x y m n : ℕ) → IsEnd h (Ref y) → IsValue h (Ref x) → term h x ≡ var m → term h y ≡ var n → m < n → HasNear h (term h x) (term h y) y (Ref x)
near-younger h x y m n ey fx tx ty lt =
    let near = near-older h y x n m ey fx ty tx lt in
    record { number = near.number; near = near.near; to = λ τ e. near.to τ (sym e); back = λ τ e. sym (near.back τ e) }

pub says-along : (h : Store) (s t s1 t1 : Tree) (r : Verdict) → s ≡ s1 → t ≡ t1 → IsVerdict h s t r → IsVerdict h s1 t1 r
says-along h s t s1 t1 r es et says = subst (λ u. IsVerdict h u t1 r) es (subst (λ u. IsVerdict h s u r) et says)

-- two integers
pub integers-same : (s t : Tree) (i j : ℤ) → s ≡ int i → t ≡ int j → i ≡ j → (τ : ℕ → Tree) → bind τ s ≡ bind τ t
integers-same s t i j es et e τ = ap (bind τ) (es ∙ ap int e ∙ sym et)

pub integers-clash : (s t : Tree) (i j : ℤ) → s ≡ int i → t ≡ int j → (i ≡ j → ⊥) → (τ : ℕ → Tree) → bind τ s ≡ bind τ t → ⊥
unfolding bind
integers-clash s t i j es et ne τ e = ne (int-number (sym (ap (bind τ) es) ∙ e ∙ ap (bind τ) et))
