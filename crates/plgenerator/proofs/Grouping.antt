-- The equations of arguments with groups of terms, and the groups that are left.
use Rattle.std.proofs.Common.{◌≡◌, ℕ, zero, suc, ◌+◌, ◌-◌, ◌<◌, ◌≤◌, List, [], ◌∷◌, ◌++◌, length, map, take, drop, drop-cons, get_or, refl, sym, ap, ap₂, ◌∙◌, arith, subst}
use Rattle.std.specs.Prelude.{codes, if◌then◌else◌}
use Rattle.std.proofs.lemmas.Bool.{lt-ltb}
use Rattle.std.proofs.lemmas.List.{length-map, take-map, drop-map}
use Rattle.plterm.specs.Tree.{Tree, var, compound, trees}
use Rattle.plterm.specs.Variables.{AllBelow, EachBelow}
use Rattle.plsubst.specs.Subst.{bind}
use Rattle.plcells.specs.declared.cell.Cell.{Cell}
use Rattle.plcells.specs.declared.cell.Cell.TheVariants.{Free}
use Rattle.plcells.specs.Store.{Store, at, value, IsValue, AreValues}
use Rattle.plcells.specs.Equations.{filled}
use Rattle.plcells.proofs.Nodes.{bind-trees}
use Rattle.plbuiltin.specs.Parts.{variables_from}
use Rattle.plbuiltin.specs.Solution.{together, against}
use Rattle.plgenerator.specs.declared.turn.Remaining.TheVariants as turns
use Rattle.plgenerator.specs.declared.turn.Groups.{Groups}
use Rattle.plgenerator.specs.Answers.{left, IsRemaining}
use Rattle.plgenerator.proofs.Equations.{solved_as}

-- one variable more
one-more : (from k : ℕ) → variables_from from (suc k) ≡ variables_from from k ++ var (from + k) ∷ []
one-more from zero = let same : from ≡ from + 0 = omega arith in ap (λ x. var x ∷ []) same
one-more from (suc k) =
    let same : suc from + k ≡ from + suc k = omega arith in
    ap (λ ts. var from ∷ ts) (one-more (suc from) k ∙ ap (λ x. variables_from (suc from) k ++ var x ∷ []) same)

pub variables-more : (from k : ℕ) → variables_from from (k + 1) ≡ variables_from from k ++ var (from + k) ∷ []
variables-more from k = let next : k + 1 ≡ suc k = omega arith in ap (variables_from from) next ∙ one-more from k

pub length-variables : (from k : ℕ) → length (variables_from from k) ≡ k
length-variables from zero = refl
length-variables from (suc k) = ap suc (length-variables (suc from) k)

pub below-variables : (m j k : ℕ) → j + k ≤ m → EachBelow m (trees (variables_from j k))
below-variables m j zero le = tt
below-variables m j (suc k) le = (omega (arith, le), below-variables m (suc j) k (omega (arith, le)))

-- variables that stand for the terms of values
pub bound-values : (σ : ℕ → Tree) (h : Store) (vs : List Cell) (k : ℕ) → ((i : ℕ) → i < length vs → σ (k + i) ≡ value h (at vs i)) → map (bind σ) (variables_from k (length vs)) ≡ map (value h) vs
unfolding bind
bound-values σ h [] k same = refl
bound-values σ h (v ∷ vs) k same =
    let here : k + 0 ≡ k = omega arith in
    let first : σ k ≡ value h v = ap σ (sym here) ∙ same 0 (omega arith) in
    ap₂ (λ t ts. t ∷ ts) first (bound-values σ h vs (suc k) (λ i lt. let e : suc k + i ≡ k + suc i = omega arith in ap σ e ∙ same (suc i) (omega (arith, lt))))

module _ (h : Store) (v : Cell) (vs : List Cell) (n : ℕ) where
  pub first_at : filled h (v ∷ vs) n 0 ≡ value h v
  first_at = ap (λ b. if b then value h v else var (n + (0 - suc (length vs)))) (lt-ltb 0 (suc (length vs)) (omega arith))

  pub value_at : (i : ℕ) → i < length vs → filled h (v ∷ vs) n (1 + i) ≡ value h (at vs i)
  value_at i lt =
      let place : 1 + i ≡ suc i = omega arith in
      ap (λ b. if b then value h (at (v ∷ vs) (1 + i)) else var (n + (1 + i - suc (length vs)))) (lt-ltb (1 + i) (suc (length vs)) (omega (arith, lt)))
      ∙ ap (λ y. value h (at (v ∷ vs) y)) place

  pub bind-arguments : (f : List ℕ) → bind (filled h (v ∷ vs) n) (compound f (trees (variables_from 1 (length vs)))) ≡ compound f (trees (map (value h) vs))
  unfolding bind
  bind-arguments f =
      ap (compound f) (bind-trees (filled h (v ∷ vs) n) (variables_from 1 (length vs)))
      ∙ ap (λ ts. compound f (trees ts)) (bound-values (filled h (v ∷ vs) n) h vs 1 (λ i lt. value_at i lt))

-- the equation of a group
module _ (h : Store) (v : Cell) (vs ws : List Cell) (l r : Tree) (values : ws ≡ v ∷ vs) (left-is : l ≡ together (variables_from 1 (length vs))) (right-is : r ≡ var 0) where
  pub group-is : (n : ℕ) → solved_as h n ws l r ≡ against (map (value h) vs) (value h v)
  unfolding bind
  group-is n =
      ap₂ (λ us u. solved_as h n us u r) values left-is
      ∙ ap₂ (λ t u. record { left = t; right = u; new = 0 }) (bind-arguments h v vs n (codes "-")) (ap (bind (filled h (v ∷ vs) n)) right-is ∙ first_at h v vs n)

  pub group-values : AreValues h vs → IsValue h v → AreValues h ws
  group-values all one = subst (AreValues h) (sym values) (one, all)

  pub group-left : AllBelow (length ws + 0) l
  group-left =
      let many : length ws ≡ suc (length vs) = ap length values in
      subst (AllBelow (length ws + 0)) (sym left-is) (below-variables (length ws + 0) 1 (length vs) (omega (arith, many)))

  pub group-right : AllBelow (length ws + 0) r
  group-right =
      let many : length ws ≡ suc (length vs) = ap length values in
      subst (AllBelow (length ws + 0)) (sym right-is) (omega (arith, many))

-- the first of some values are values
pub first-values : (h : Store) (n : ℕ) (vs : List Cell) → AreValues h vs → AreValues h (take n vs)
first-values h zero vs all = tt
first-values h (suc n) [] all = tt
first-values h (suc n) (v ∷ vs) all = (all.0, first-values h n vs all.1)

module _ (h : Store) (vs : List Cell) (g k : Groups) where
  -- the next group is the first answer that is left
  pub next-left : (v : Cell) → g.arguments + g.passed < length vs → k.arguments ≡ g.arguments → k.passed ≡ g.passed + 1 → v ≡ get_or vs (g.arguments + g.passed) (Free 0) →
      left h vs (turns.Groups g) ≡ against (map (value h) (take g.arguments vs)) (value h v) ∷ left h vs (turns.Groups k)
  next-left v lt same more here =
      let us = map (value h) vs in
      let j = g.arguments + g.passed in
      let front : take g.arguments us ≡ map (value h) (take g.arguments vs) = take-map (value h) g.arguments vs in
      let behind : suc j ≡ k.arguments + k.passed = omega (arith, same, more) in
      let rest : drop j us ≡ value h v ∷ drop (k.arguments + k.passed) us =
      drop-map (value h) j vs ∙ ap (map (value h)) (drop-cons vs j (Free 0) lt) ∙ ap₂ (λ w ws. value h w ∷ ws) (sym here) (sym (drop-map (value h) (suc j) vs)) ∙ ap (λ i. value h v ∷ drop i us) behind in
      ap (map (against (take g.arguments us))) rest
      ∙ ap₂ (λ ts m. against ts (value h v) ∷ map (against (take m us)) (drop (k.arguments + k.passed) us)) front (sym same)

  pub next-groups : g.arguments + g.passed < length vs → k.arguments ≡ g.arguments → k.passed ≡ g.passed + 1 → 0 < g.arguments → g.arguments ≤ 1023 → IsRemaining h vs (turns.Groups k)
  next-groups lt same more some few = (omega (arith, same, some), omega (arith, same, few), omega (arith, lt, same, more, length-map vs (value h)))
