-- Variables that are put one after another.
use Rattle.std.proofs.Common.{◌≡◌, ℕ, zero, suc, ◌+◌, ◌≤◌, List, [], ◌∷◌, ◌++◌, length, drop, refl, sym, ap, ap₂, ◌∙◌, arith}
use Rattle.plterm.specs.declared.node.Node.TheVariants as nodes
use Rattle.plterm.specs.Tree.{Tree, Trees, var, atom, compound, none, more, trees}
use Rattle.plterm.specs.Building.{gather, with_node}
use Rattle.plread.specs.Texts.{nil, list_term, listed}
use Rattle.plread.specs.Machine.{with_tail}
use Rattle.plread.proofs.Joined.{onto, onto_more, length-onto, closed_list}
use Rattle.plbuiltin.specs.Parts.{variables_from}

pub length-variables : (from k : ℕ) → length (variables_from from k) ≡ k
length-variables from zero = refl
length-variables from (suc k) = ap suc (length-variables (suc from) k)

variables-more : (from i : ℕ) → variables_from from (suc i) ≡ variables_from from i ++ var (from + i) ∷ []
variables-more from zero = let same : from ≡ from + 0 = omega arith in ap (λ x. var x ∷ []) same
variables-more from (suc i) =
    let same : suc from + i ≡ from + suc i = omega arith in
    ap (λ ts. var from ∷ ts) (variables-more (suc from) i ∙ ap (λ x. variables_from (suc from) i ++ var x ∷ []) same)

pub one_more : (from i : ℕ) (old terms new : List Tree) → terms ≡ onto (variables_from from i) old → new ≡ var (from + i) ∷ terms → new ≡ onto (variables_from from (i + 1)) old
one_more from i old terms new so_far e =
    let next : suc i ≡ i + 1 = omega arith in
    e ∙ ap (λ l. var (from + i) ∷ l) so_far ∙ sym (onto_more (variables_from from i) old (var (from + i))) ∙ ap (λ l. onto l old) (sym (variables-more from i) ∙ ap (variables_from from) next)

module _ (from k : ℕ) (terms : List Tree) (all : terms ≡ onto (variables_from from k) []) where
  pub so_many : k ≤ length terms
  so_many = omega (arith, ap length all, length-onto (variables_from from k) [], length-variables from k)

  pub closed : with_tail k (atom nil ∷ terms) ≡ listed (variables_from from k) ∷ []
  closed = ap (λ l. with_tail k (atom nil ∷ l)) all ∙ closed_list (variables_from from k) [] k (sym (length-variables from k))

-- the elements of two lists that are the same
same_elements : (xs ys : Trees) → list_term xs (atom nil) ≡ list_term ys (atom nil) → xs ≡ ys
same_elements none none e = refl
same_elements none (more u us) e = absurd (cc e)
same_elements (more t ts) none e = absurd (cc e)
same_elements (more t ts) (more u us) e =
    let first : t ≡ u = cc e in
    let rest : list_term ts (atom nil) ≡ list_term us (atom nil) = cc e in
    ap₂ more first (same_elements ts us rest)

pub one_compound : (f : List ℕ) (from k : ℕ) (terms : List Tree) → terms ≡ onto (variables_from from k) [] → with_node (nodes.Compound f k) terms ≡ compound f (trees (variables_from from k)) ∷ []
one_compound f from k terms all =
    let list = closed from k terms all in
    let elements : list_term (gather k terms none) (atom nil) ≡ list_term (trees (variables_from from k)) (atom nil) = cc list in
    let rest : drop k terms ≡ [] = cc list in
    ap₂ (λ ts us. compound f ts ∷ us) (same_elements (gather k terms none) (trees (variables_from from k)) elements) rest
