-- The conversion of terms by their parts.
use Rattle.std.proofs.Common.{◌≡◌, ℕ, zero, suc, Bool, true, false, List, [], ◌∷◌, length, refl, sym, ap, ◌∙◌, arith, eqb-true, ◌==◌, ◌&&◌, ◌||◌, bytes_eq, Option, Some, None, option_map}
use Rattle.std.specs.Prelude.{option_and_then, codes, if◌then◌else◌}
use Rattle.plterm.specs.Tree.{Tree, Trees, compound, none, more, trees, list_of}
use Rattle.plclause.specs.Conversion.{converted, all_converted, is_control}
use Rattle.plcells.specs.Store.{Store, terms}

-- the goals of the terms, if each has one
abbrev pub goals : List Tree → Option (List Tree)
goals [] = Some []
goals (t ∷ ts) = option_and_then (λ u. option_map (λ us. u ∷ us) (goals ts)) (converted t)

-- two goals and those of others
abbrev pub two : Option Tree → Option Tree → Option (List Tree) → Option (List Tree)
two x y r = option_and_then (λ u. option_map (λ us. u ∷ us) (option_and_then (λ v. option_map (λ vs. v ∷ vs) r) y)) x

abbrev pub both : Option Tree → Option Tree → Option Trees
both x y = option_and_then (λ u. option_map (more u) (option_and_then (λ v. option_map (more v) (Some none)) y)) x

pub record Parts (x y : Option Tree) (r : Option (List Tree)) (us : List Tree) : Type 0 where
  pub u : Tree
  pub v : Tree
  pub vs : List Tree
  pub x_is : x ≡ Some u
  pub y_is : y ≡ Some v
  pub r_is : r ≡ Some vs
  pub us_is : us ≡ u ∷ v ∷ vs

pub parts : (x y : Option Tree) (r : Option (List Tree)) (us : List Tree) → two x y r ≡ Some us → Parts x y r us
parts None y r us e = absurd (grind (arith, e))
parts (Some u) None r us e = absurd (grind (arith, e))
parts (Some u) (Some v) None us e = absurd (grind (arith, e))
parts (Some u) (Some v) (Some vs) us e = record { u = u; v = v; vs = vs; x_is = refl; y_is = refl; r_is = refl; us_is = let same : u ∷ v ∷ vs ≡ us = cc in sym same }

pub none_two : (f : List ℕ) (x y : Option Tree) (r : Option (List Tree)) → two x y r ≡ None → option_and_then (λ u. option_map (λ us. u ∷ us) r) (option_map (compound f) (both x y)) ≡ None
none_two f None y r e = refl
none_two f (Some u) None r e = refl
none_two f (Some u) (Some v) None e = refl
none_two f (Some u) (Some v) (Some vs) e = absurd (grind (arith, e))

pub converted-control : (f : List ℕ) (a b : Tree) → is_control f 2 ≡ true → converted (compound f (more a (more b none))) ≡ option_map (compound f) (both (converted a) (converted b))
converted-control f a b is = rw is refl

-- a compound that is no control construct is its goal
pub converted-other : (f : List ℕ) (ts : Trees) (k : ℕ) → length (list_of ts) ≡ k → is_control f k ≡ false → converted (compound f ts) ≡ Some (compound f ts)
converted-other f ts k e other = ap (λ c. if c then option_map (compound f) (all_converted ts) else Some (compound f ts)) (ap (is_control f) e ∙ other)

pub terms-length : (h : Store) (a k : ℕ) → length (list_of (trees (terms h a k))) ≡ k
terms-length h a zero = refl
terms-length h a (suc k) = ap suc (terms-length h (suc a) k)

pub control-two : (f : List ℕ) (k : ℕ) → is_control f k ≡ true → k ≡ 2
control-two f k is = go (k == 2) refl is
  where
    go : (b : Bool) → (k == 2) ≡ b → (b && (bytes_eq f (codes ",") || bytes_eq f (codes ";") || bytes_eq f (codes "->"))) ≡ true → k ≡ 2
    go true e is = eqb-true k 2 e
    go false e is = absurd (grind (arith, is))
