-- A compound of the arguments of another and of further ones.
use Rattle.std.proofs.Common.{◌≡◌, ℕ, zero, suc, ◌+◌, ◌<◌, ◌≤◌, List, [], ◌∷◌, ◌++◌, length, length-append, map, refl, sym, ap, ap₂, ◌∙◌, arith, IfOk, Ok, Err}
use Rattle.std.specs.Prelude.{if◌then◌else◌, Result as Outcomes}
use Rattle.std.proofs.lemmas.Bool.{le-leb, lt-leb}
use Rattle.std.proofs.lemmas.List.{map-append, length-map}
use Rattle.plterm.specs.Tree.{Tree, var, compound, trees}
use Rattle.plterm.proofs.Forests.{list_of-trees}
use Rattle.platoms.specs.Names.{HasFunctor, atom_at, functor_name}
use Rattle.platoms.proofs.Extending.{atom_same}
use Rattle.plcells.specs.declared.cell.Cell.{Cell}
use Rattle.plcells.specs.Store.{Store, term, terms, value, AreValues, Preserves, renamed, AddsValue}
use Rattle.plcells.specs.Putting.{PutsTerm}
use Rattle.plcells.proofs.Putting.{adds-renamed, adds-value, adds-both}
use Rattle.plerror.specs.Errors.{arity_error}
use Rattle.plsearch.specs.Running.{Runs, Raises, with_arguments, compound_of}
use Rattle.plgoals.specs.declared.extend.Extended.TheVariants.{Is, Unbound, TooLong}
use Rattle.plgoals.specs.Extended.{AreArguments, Extends}

pub terms-length : (h : Store) (c k : ℕ) → length (terms h c k) ≡ k
terms-length h c zero = refl
terms-length h c (suc k) = ap suc (terms-length h (suc c) k)

pub terms-more : (h : Store) (c k : ℕ) → terms h c (k + 1) ≡ terms h c k ++ term h (c + k) ∷ []
terms-more h c k = (let one : k + 1 ≡ suc k = omega arith in ap (terms h c) one) ∙ go c k
  where
    go : (c k : ℕ) → terms h c (suc k) ≡ terms h c k ++ term h (c + k) ∷ []
    go c zero = let here : c ≡ c + 0 = omega arith in ap (λ d. term h d ∷ []) here
    go c (suc k) = let there : suc c + k ≡ c + suc k = omega arith in ap (λ ts. term h c ∷ ts) (go (suc c) k ∙ ap (λ d. terms h (suc c) k ++ term h d ∷ []) there)

pub arguments-length : (h : Store) (p k : ℕ) (vs : List Cell) → AreArguments h p k vs → length vs ≡ k
arguments-length h p k vs a = sym (length-map vs (value h)) ∙ ap length a.are ∙ terms-length h (suc p) k

pub values-same : (old new : Store) (vs : List Cell) → Preserves old new → AreValues old vs → map (value new) vs ≡ map (value old) vs
values-same old new [] p are = refl
values-same old new (v ∷ vs) p are = ap₂ (λ t ts. t ∷ ts) (p.values v are.0).1 (values-same old new vs p are.1)

pub joined : (old mid new : Store) (a k f : ℕ) (v : Cell) (vs : List Cell) → a < length old.names.atoms → HasFunctor mid.names f (record { name = a; arity = k }) → mid ≡ renamed old mid.names → Preserves old mid → AreValues old vs →
    AddsValue mid new v (compound (functor_name mid.names f) (trees (map (value mid) vs))) → PutsTerm old new v (compound (atom_at old.names a) (trees (map (value old) vs)))
joined old mid new a k f v vs lt has same p are adds =
    let named : functor_name mid.names f ≡ atom_at old.names a = ap (λ x. atom_at mid.names (x.name)) has.is ∙ atom_same old.names mid.names p.keeps.names a lt in
    record {
      fits = adds.fits;
      is = adds.is ∙ ap₂ (λ s ts. compound s (trees ts)) named (values-same old mid vs p are);
      adds = adds-both old mid new (adds-renamed old mid same p) (adds-value mid new v _ adds);
    }

-- what comes of the arguments
few-is : (s : List ℕ) (ts : List Tree) → length ts ≤ 1024 → compound_of s ts ≡ Runs (compound s (trees ts))
few-is s ts le = ap (λ b. if b then Runs (compound s (trees ts)) else Raises arity_error) (le-leb (length ts) 1024 le)

many-is : (s : List ℕ) (ts : List Tree) → 1024 < length ts → compound_of s ts ≡ Raises arity_error
many-is s ts lt = ap (λ b. if b then Runs (compound s (trees ts)) else Raises arity_error) (lt-leb (length ts) 1024 lt)

pub extends-variable : (h : Store) (v : Cell) (further : List Cell) (n : ℕ) → value h v ≡ var n → Extends h h v further Unbound
extends-variable h v further n is = record { is = ap (λ t. with_arguments t (map (value h) further)) is; there = tt }

module _ (old new : Store) (v : Cell) (s : List ℕ) (p k : ℕ) (further : List Cell) (is : value old v ≡ compound s (trees (terms old (suc p) k))) where
  opened : with_arguments (value old v) (map (value old) further) ≡ compound_of s (terms old (suc p) k ++ map (value old) further)
  opened =
      ap (λ t. with_arguments t (map (value old) further)) is
      ∙ ap (λ ts. compound_of s (ts ++ map (value old) further)) (list_of-trees (terms old (suc p) k))

  long : length (terms old (suc p) k ++ map (value old) further) ≡ k + length further
  long = length-append (terms old (suc p) k) (map (value old) further) ∙ ap₂ (λ i j. i + j) (terms-length old (suc p) k) (length-map further (value old))

  pub extends-compound : (w : Cell) (own : List Cell) → AreArguments old p k own → k + length further ≤ 1024 →
      PutsTerm old new w (compound s (trees (map (value old) (own ++ further)))) → Extends old new v further (Is w)
  extends-compound w own are few puts = record {
    is =
        opened
        ∙ few-is s (terms old (suc p) k ++ map (value old) further) (omega (arith, long, few))
        ∙ ap Runs (sym (puts.is ∙ ap (λ ts. compound s (trees ts)) (map-append (value old) own further ∙ ap (λ ts. ts ++ map (value old) further) are.are)));
    there = puts.fits;
  }

  pub extends-long : 1024 < k + length further → Extends old new v further TooLong
  extends-long many = record { is = opened ∙ many-is s (terms old (suc p) k ++ map (value old) further) (omega (arith, long, many)); there = tt }

pub if_ok : {A E : Type 0} (P Q : A → Type 0) (r : Outcomes A E) → ((a : A) → P a → Q a) → IfOk r P → IfOk r Q
if_ok P Q (Ok a) f k = f a k
if_ok P Q (Err e) f k = tt
