-- Procedures and numbers that a test finds equal are the same.
use Rattle.std.proofs.Common.{◌≡◌, refl, ap₂, arith, ℕ, Bool, true, false, nat_eq}
use Rattle.std.specs.Prelude.{◌&&◌}
use Rattle.std.specs.Str.{bytes_eq}
use Rattle.std.proofs.lemmas.Bool.Decides.{nat_tests}
use Rattle.std.proofs.lemmas.Slice.Eq.{bytes_eq-Decides}
use Rattle.plterm.specs.declared.indicator.Indicator.{Indicator}
use Rattle.plterm.specs.Indicators.{same_indicator}

pub left-true : (u v : Bool) → u && v ≡ true → u ≡ true
left-true true v e = refl
left-true false v e = e

pub right-true : (u v : Bool) → u && v ≡ true → v ≡ true
right-true true v e = e
right-true false v e = absurd (cc)

pub nat-self : (n : ℕ) → nat_eq n n ≡ true
nat-self n = grind (arith, nat_tests)

pub nat-same : (m n : ℕ) → nat_eq m n ≡ true → m ≡ n
nat-same m n e = grind (arith, nat_tests)

pub same-is : (a b : Indicator) → same_indicator a b ≡ true → a ≡ b
same-is a b e =
    let n : a.name ≡ b.name = (bytes_eq-Decides a.name b.name).0 (left-true (bytes_eq a.name b.name) (nat_eq a.arity b.arity) e) in
    let k : a.arity ≡ b.arity = nat-same a.arity b.arity (right-true (bytes_eq a.name b.name) (nat_eq a.arity b.arity) e) in
    ap₂ (λ n k. record { name = n; arity = k }) n k

pub indicator-self : (a : Indicator) → same_indicator a a ≡ true
indicator-self a = ap₂ (λ u v. u && v) ((bytes_eq-Decides a.name a.name).1 refl) (nat-self a.arity)
