-- Targets that a test finds equal are the same.
use Rattle.std.proofs.Common.{◌≡◌, refl, ap, ap₂, arith, Bool, true, false, List, [], ◌∷◌, Some, cond}
use Rattle.std.specs.HashMap.{HashMap, get}
use Rattle.std.specs.Map.{lookup}
use Rattle.std.specs.declared.hash.FoldHasher.{FoldHasher}
use Rattle.std.specs.declared.hash.BuildHasherDefault.{BuildHasherDefault}
use Rattle.std.proofs.lemmas.Bool.Decides.{nat_tests}
use Rattle.plevent.specs.declared.update.ClauseName.{ClauseName}
use Rattle.plevent.specs.Alive.{same_name, change_if}
use Rattle.plstore.proofs.Same.{nat-same, nat-self}
use Rattle.pltx.specs.declared.target.Target.{Target}
use Rattle.pltx.specs.declared.target.Target.TheVariants.{Committed, Own}
use Rattle.pltx.specs.Own.{same_target}
use Rattle.pltx.specs.contracts.target.TargetPartialEq.TheImpl.{eq-value}

name-same : (x y : ClauseName) → same_name x y ≡ true → x ≡ y
name-same x y h = let p : x.place ≡ y.place = grind (arith, nat_tests) in let q : x.number ≡ y.number = grind (arith, nat_tests) in ap₂ (λ p n. record { place = p; number = n }) p q

name-self : (x : ClauseName) → same_name x x ≡ true
name-self x = grind (arith, nat_tests)

pub target-same : (s t : Target) → same_target s t ≡ true → s ≡ t
target-same (Committed x) (Committed y) h = ap Committed (name-same x y h)
target-same (Committed x) (Own k) h = absurd (cc)
target-same (Own k) (Committed x) h = absurd (cc)
target-same (Own j) (Own k) h = ap Own (nat-same j k h)

pub target-self : (t : Target) → same_target t t ≡ true
target-self (Committed x) = name-self x
target-self (Own k) = nat-self k

pub cond-is : {A : Type 0} (b : Bool) (x y : A) → cond b x y ≡ change_if b x y
cond-is true x y = refl
cond-is false x y = refl

-- the test of the map
pub eq-is : (s t : Target) → eq-value.it s t ≡ same_target s t
eq-is (Committed x) (Committed y) = refl
eq-is (Committed x) (Own k) = refl
eq-is (Own k) (Committed x) = refl
eq-is (Own j) (Own k) = refl

lookup-is : {X : Type 0} (t : Target) (es : List (Target × X)) → lookup (eq-value.it t) es ≡ lookup (same_target t) es
lookup-is t [] = refl
lookup-is t (e ∷ es) = ap₂ (λ v o. cond v (Some e.1) o) (eq-is t e.0) (lookup-is t es)

pub get-is : {X : Type 0} (m : HashMap Target X (BuildHasherDefault FoldHasher)) (t : Target) → get eq-value.it m t ≡ get same_target m t
get-is m t = lookup-is t m.entries
