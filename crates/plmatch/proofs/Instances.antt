-- A pattern and a message fit where they have an instance in common.
use Rattle.std.proofs.Common.{◌≡◌, ℕ, ◌+◌, ◌-◌, ◌<◌, Bool, true, false, cond, ltb, Option, Some, None, length, refl, sym, ap, subst, ◌∙◌, arith}
use Rattle.std.specs.Option.{is_some}
use Rattle.std.proofs.lemmas.Bool.Decides.{nat_tests}
use Rattle.plterm.specs.Tree.{Tree, var}
use Rattle.plterm.specs.Variables.{copied, variables, AllBelow}
use Rattle.plterm.proofs.Belows.{AllBelow-copied_0}
use Rattle.plsubst.specs.Subst.{bind, shift}
use Rattle.plsubst.specs.Unify.{unify, IsMostGeneral}
use Rattle.plsubst.proofs.Unify.{IfUnified, bind-bind, unify-general}
use Rattle.plsubst.proofs.UnifyFinds.{Found, unify-found}
use Rattle.plcells.proofs.Nodes.{bind-agree}
use Rattle.plbind.specs.Apart.{AreApart}
use Rattle.plbind.proofs.Clashing.{apart-none}
use Rattle.plmatch.specs.Matching.{fits, HaveInstance}

-- one substitution of two: that of the variables below k, and that of those from k on
abbrev joined : ℕ → (ℕ → Tree) → (ℕ → Tree) → ℕ → Tree
joined k σ τ x = cond (ltb x k) (σ x) (τ (x - k))

below_is : (k x : ℕ) → x < k → ltb x k ≡ true
below_is k x lt = grind (arith, nat_tests)

above_is : (k x : ℕ) → ltb (k + x) k ≡ false
above_is k x = grind (arith, nat_tests)

joined-below : (k : ℕ) (σ τ : ℕ → Tree) (x : ℕ) → x < k → joined k σ τ x ≡ σ x
joined-below k σ τ x lt = ap (λ (b : Bool). cond b (σ x) (τ (x - k))) (below_is k x lt)

joined-above : (k : ℕ) (σ τ : ℕ → Tree) (x : ℕ) → joined k σ τ (k + x) ≡ τ x
joined-above k σ τ x =
    let e : k + x - k ≡ x = omega arith in
    ap (λ (b : Bool). cond b (σ (k + x)) (τ (k + x - k))) (above_is k x) ∙ ap τ e

found_some : (r : Option (ℕ → Tree)) → Found r → is_some r ≡ true
found_some None f = absurd f
found_some (Some σ) f = refl

pub instance_fits : (p m : Tree) → copied 0 p ≡ p → HaveInstance p m → fits p m ≡ true
unfolding bind
instance_fits p m canonical h =
    let k = length (variables p) in
    let ρ : ℕ → Tree = joined k h.left h.right in
    let below : AllBelow k p = subst (AllBelow k) canonical (AllBelow-copied_0 p) in
    let one : bind ρ p ≡ bind h.left p = bind-agree k ρ h.left (λ x lt. joined-below k h.left h.right x lt) p below in
    let other : bind ρ (shift k m) ≡ bind h.right m =
    bind-bind ρ (λ x. var (k + x)) m ∙ ap (λ (σ : ℕ → Tree). bind σ m) (λ i x. joined-above k h.left h.right x i) in
    found_some (unify p (shift k m)) (unify-found p (shift k m) ρ (one ∙ h.same ∙ sym other))

pub fits_instance : (p m : Tree) → fits p m ≡ true → HaveInstance p m
fits_instance p m = go (unify p (shift k m)) (unify-general p (shift k m))
  where
    k : ℕ
    k = length (variables p)

    go : (r : Option (ℕ → Tree)) → IfUnified r (IsMostGeneral p (shift k m)) → is_some r ≡ true → HaveInstance p m
    go None g e = absurd cc
    go (Some σ) g e = record { left = σ; right = λ x. bind σ (var (k + x)); same = g.0 ∙ bind-bind σ (λ x. var (k + x)) m }

pub apart_fits : (p m : Tree) → AreApart p m → fits p m ≡ false
apart_fits p m apart = ap is_some (apart-none p m (length (variables p)) apart)

pub fits_apart : (p m : Tree) → copied 0 p ≡ p → fits p m ≡ false → AreApart p m
fits_apart p m canonical differ σ τ same =
    let meet = instance_fits p m canonical (record { left = σ; right = τ; same = same }) in
    let e : true ≡ false = sym meet ∙ differ in
    absurd cc
