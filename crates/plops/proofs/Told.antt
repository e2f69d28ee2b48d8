-- A declared operator is told as it was declared.
use Rattle.std.proofs.Common.{◌≡◌, ◌<◌, ℕ, ◌-◌, eqb, cond, List, [], ◌∷◌, refl, ap, ◌∙◌, arith}
use Rattle.std.proofs.lemmas.Bool.{cond-true, cond-false, eq-eqb, ne_eqb}
use Rattle.plops.specs.declared.operator.Kind.{Kind}
use Rattle.plops.specs.declared.operator.Kind.TheVariants as kinds
use Rattle.plops.specs.Tables.{plain, with_operator}
use Rattle.plops.specs.Operators.{operator_of}
use Rattle.plops.specs.Changes.{changed, without}
use Rattle.plops.specs.Listing.{told, told_by}

same : {A : Type 0} (p : ℕ) (x y : A) → cond (eqb p p) x y ≡ x
same p x y = cond-true (eqb p p) x y (eq-eqb p p refl)

less : {A : Type 0} (p : ℕ) (x y : A) → 0 < p → cond (eqb (p - 1) p) x y ≡ y
less p x y h = cond-false (eqb (p - 1) p) x y (ne_eqb (p - 1) p (λ e. omega arith))

told_again : (p : ℕ) (k : Kind) (n : List ℕ) → 0 < p → told_by (with_operator (plain n) (operator_of p k)) ≡ told p k n ∷ []
told_again p kinds.Fx n h = ap (λ k. told p k n ∷ []) (less p kinds.Fy kinds.Fx h)
told_again p kinds.Fy n h = ap (λ k. told p k n ∷ []) (same p kinds.Fy kinds.Fx)
told_again p kinds.Xfx n h = ap (λ k. told p k n ∷ []) (less p kinds.Yfx (cond (eqb (p - 1) p) kinds.Xfy kinds.Xfx) h ∙ less p kinds.Xfy kinds.Xfx h)
told_again p kinds.Xfy n h = ap (λ k. told p k n ∷ []) (less p kinds.Yfx (cond (eqb p p) kinds.Xfy kinds.Xfx) h ∙ same p kinds.Xfy kinds.Xfx)
told_again p kinds.Yfx n h = ap (λ k. told p k n ∷ []) (same p kinds.Yfx (cond (eqb (p - 1) p) kinds.Xfy kinds.Xfx))
told_again p kinds.Xf n h = ap (λ k. told p k n ∷ []) (less p kinds.Yf kinds.Xf h)
told_again p kinds.Yf n h = ap (λ k. told p k n ∷ []) (same p kinds.Yf kinds.Xf)

pub told_as_declared : (p : ℕ) (k : Kind) (n : List ℕ) → 0 < p → told_by (changed p k (plain n)) ≡ told p k n ∷ []
told_as_declared p k n h =
    ap told_by (cond-false (eqb p 0) (without (plain n) k) (with_operator (plain n) (operator_of p k)) (ne_eqb p 0 (λ e. omega arith))) ∙ told_again p k n h
