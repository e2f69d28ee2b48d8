-- Lists made of the latest terms.
use Rattle.std.proofs.Common.{◌≡◌, ◌<◌, ◌≤◌, ◌+◌, arith, ℕ, zero, suc, List, [], ◌∷◌, ◌++◌, length, map, drop, get_or, refl, sym, ap, ◌∙◌, drop-cons}
use Rattle.std.proofs.lemmas.List.{map-append, length-map}
use Rattle.plterm.specs.declared.node.Node.TheVariants as nodes
use Rattle.plterm.specs.Tree.{Tree, Trees, var, atom, none, more, trees}
use Rattle.plterm.specs.Building.{gather, with_node}
use Rattle.plread.specs.Texts.{dot, nil, list_term, listed}
use Rattle.plread.specs.Machine.{with_tail}

-- one more tree gathered stands before those gathered so far
gather_more : (k : ℕ) (ts : List Tree) (behind : Trees) → k < length ts → gather (suc k) ts behind ≡ more (get_or ts k (var 0)) (gather k ts behind)
gather_more k [] behind h = absurd (omega arith)
gather_more zero (t ∷ ts) behind h = refl
gather_more (suc k) (t ∷ ts) behind h = gather_more k ts (more t behind) (omega arith)

drop_here : (k : ℕ) (ts : List Tree) → k < length ts → drop k ts ≡ get_or ts k (var 0) ∷ drop (suc k) ts
drop_here k ts h = drop-cons ts k (var 0) h

-- one more cell
one_cell : (k : ℕ) (tail : Tree) (ts : List Tree) → k < length ts → with_node (nodes.Compound dot 2) (with_tail k (tail ∷ ts)) ≡ with_tail (suc k) (tail ∷ ts)
one_cell k tail ts h =
    ap (λ l. with_node (nodes.Compound dot 2) (list_term (gather k ts none) tail ∷ l)) (drop_here k ts h)
    ∙ ap (λ a. list_term a tail ∷ drop (suc k) ts) (sym (gather_more k ts none h))

pub cell_more : (k : ℕ) (old : List Tree) → suc k < length old → with_node (nodes.Compound dot 2) (with_tail k old) ≡ with_tail (suc k) old
cell_more k [] h = absurd (omega arith)
cell_more k (tail ∷ ts) h = one_cell k tail ts (omega arith)

-- trees put one after another onto others
abbrev pub onto : List Tree → List Tree → List Tree
onto [] ts = ts
onto (x ∷ xs) ts = onto xs (x ∷ ts)

before : List Tree → Trees → Trees
before [] behind = behind
before (x ∷ xs) behind = more x (before xs behind)

before_none : (xs : List Tree) → before xs none ≡ trees xs
unfolding before
before_none [] = refl
before_none (x ∷ xs) = ap (more x) (before_none xs)

gather_onto : (xs ts : List Tree) (k : ℕ) (behind : Trees) → gather (length xs + k) (onto xs ts) behind ≡ gather k ts (before xs behind)
unfolding before
gather_onto [] ts k behind = ap (λ n. gather n ts behind) (omega arith)
gather_onto (x ∷ xs) ts k behind = ap (λ n. gather n (onto xs (x ∷ ts)) behind) (omega arith) ∙ gather_onto xs (x ∷ ts) (suc k) behind

drop_onto : (xs ts : List Tree) (k : ℕ) → drop (length xs + k) (onto xs ts) ≡ drop k ts
drop_onto [] ts k = ap (λ n. drop n ts) (omega arith)
drop_onto (x ∷ xs) ts k = ap (λ n. drop n (onto xs (x ∷ ts))) (omega arith) ∙ drop_onto xs (x ∷ ts) (suc k)

pub onto_more : (xs ts : List Tree) (x : Tree) → onto (xs ++ x ∷ []) ts ≡ x ∷ onto xs ts
onto_more [] ts x = refl
onto_more (y ∷ xs) ts x = onto_more xs (y ∷ ts) x

pub length-onto : (xs ts : List Tree) → length (onto xs ts) ≡ length xs + length ts
length-onto [] ts = omega arith
length-onto (x ∷ xs) ts = omega (arith, length-onto xs (x ∷ ts))

-- the list of trees that were put one after another
pub closed_list : (xs ts : List Tree) (n : ℕ) → n ≡ length xs → with_tail n (atom nil ∷ onto xs ts) ≡ listed xs ∷ ts
closed_list xs ts n e =
    let all : n ≡ length xs + 0 = omega arith in
    ap (λ k. list_term (gather k (onto xs ts) none) (atom nil) ∷ drop k (onto xs ts)) all
    ∙ ap (λ a. list_term a (atom nil) ∷ drop (length xs + 0) (onto xs ts)) (gather_onto xs ts 0 none ∙ before_none xs)
    ∙ ap (λ l. listed xs ∷ l) (drop_onto xs ts 0)

-- the trees of elements that came one after another
module _ (f : ℕ → Tree) (xs : List ℕ) where
  pub one_pushed : (x : ℕ) (old terms new : List Tree) → terms ≡ onto (map f xs) old → new ≡ f x ∷ terms → new ≡ onto (map f (xs ++ x ∷ [])) old
  one_pushed x old terms new so_far e =
      e ∙ ap (λ l. f x ∷ l) so_far ∙ sym (onto_more (map f xs) old (f x)) ∙ ap (λ l. onto l old) (sym (map-append f xs (x ∷ [])))

  pub pushed_so_many : (all : List ℕ) (old terms : List Tree) (n : ℕ) → terms ≡ onto (map f xs) old → xs ≡ all → n ≡ length all → n ≤ length terms
  pushed_so_many all old terms n so_far e many = omega (arith, ap length so_far, length-onto (map f xs) old, length-map xs f, ap length e)

  pub closed_text : (all : List ℕ) (old terms : List Tree) (n : ℕ) → terms ≡ onto (map f xs) old → xs ≡ all → n ≡ length all → with_tail n (atom nil ∷ terms) ≡ listed (map f all) ∷ old
  closed_text all old terms n so_far e many =
      let same : terms ≡ onto (map f all) old = so_far ∙ ap (λ l. onto (map f l) old) e in
      ap (λ l. with_tail n (atom nil ∷ l)) same ∙ closed_list (map f all) old n (omega (arith, length-map all f))
