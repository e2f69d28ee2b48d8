-- A copy is a variant.
use Rattle.std.proofs.Common.{◌≡◌, ◌≤◌, ◌==◌, eqb, ◌+◌, max, min, ℕ, zero, suc, List, [], ◌∷◌, ◌++◌, length, map, cond, length-append, refl, sym, ap, subst, ◌∙◌, arith}
use Rattle.std.proofs.lemmas.Bool.{cond_both, eqb-true, eqb-false}
use Rattle.std.proofs.lemmas.Bool.Decides.{nat_tests}
use Rattle.std.proofs.lemmas.List.Folds.{position_or_len_push}
use Rattle.plterm.specs.declared.node.Node.{Node}
use Rattle.plterm.specs.declared.node.Node.TheVariants.{Var, Int, Atom, Compound}
use Rattle.plterm.specs.Tree.{Tree}
use Rattle.plterm.specs.Reading.{spelling, tree_of, tree_of-spelling}
use Rattle.plterm.specs.Variables.{place, added, variables, rename, copied, IsVariant}
use Rattle.plterm.proofs.Spellings.{spelling-renamed, numbering, numbering_is}
use Rattle.pllaws.proofs.Numbers.{InOrder, node_numbers, in_order}

-- the numbers below one
abbrev below : ℕ → List ℕ
below zero = []
below (suc m) = below m ++ m ∷ []

length-below : (m : ℕ) → length (below m) ≡ m
length-below zero = refl
length-below (suc m) = let h = length-below m in omega (arith, length-append (below m) (m ∷ []))

pub next_place : (v m : ℕ) → cond (eqb (min v m) m) (m + cond (eqb m v) 0 1) (min v m) ≡ min v (suc m)
next_place v m = grind (arith, nat_tests)

place-below : (v m : ℕ) → place v (below m) ≡ min v m
place-below v zero = omega arith
place-below v (suc m) =
    position_or_len_push (λ x. x == v) (below m) m ∙ ap (λ q. cond (eqb q (length (below m))) (length (below m) + cond (eqb m v) 0 1) q) (place-below v m)
    ∙ ap (λ l. cond (eqb (min v m) l) (l + cond (eqb m v) 0 1) (min v m)) (length-below m) ∙ next_place v m

added-below : (v m : ℕ) → v ≤ m → added (below m) v ≡ below (max m (v + 1))
added-below v m h =
    let least : min v m ≡ v = omega arith in
    ap (λ q. cond (eqb q (length (below m))) (below m ++ v ∷ []) (below m)) (place-below v m ∙ least) ∙ ap (λ l. cond (eqb v l) (below m ++ v ∷ []) (below m)) (length-below m)
    ∙ cond_both (eqb v m) (below m ++ v ∷ []) (below m) (λ l. l ≡ below (max m (v + 1)))
    (λ b.
    let e : v ≡ m = eqb-true v m b in
    let next : suc m ≡ max m (v + 1) = omega arith in
    ap (λ w. below m ++ w ∷ []) e ∙ ap below next)
    (λ b.
    let e = eqb-false v m b in
    let here : m ≡ max m (v + 1) = omega arith in
    ap below here)

-- nodes whose variables are numbered by first occurrence keep their numbers
numbering_again : (top m : ℕ) (ns : List Node) → InOrder top m (node_numbers (λ v. v) ns []) → numbering (below m) ns ≡ ns
numbering_again top m [] o = refl
numbering_again top m (Var v ∷ ns) o =
    let least : min v m ≡ v = let low = o.0 in omega arith in
    ap (λ w. Var w ∷ numbering (added (below m) v) ns) (place-below v m ∙ least) ∙ ap (λ seen. Var v ∷ numbering seen ns) (added-below v m o.0) ∙ ap (λ l. Var v ∷ l) (numbering_again top (max m (v + 1)) ns o.2)
numbering_again top m (Int i ∷ ns) o = ap (λ l. Int i ∷ l) (numbering_again top m ns o)
numbering_again top m (Atom s ∷ ns) o = ap (λ l. Atom s ∷ l) (numbering_again top m ns o)
numbering_again top m (Compound s k ∷ ns) o = ap (λ l. Compound s k ∷ l) (numbering_again top m ns o)

zero_more : (n : ℕ) → 0 + n ≡ n
zero_more n = omega arith

node_numbers-renamed : (f : ℕ → ℕ) (ns : List Node) → node_numbers (λ v. v) (map (rename (λ v. 0 + f v)) ns) [] ≡ node_numbers f ns []
node_numbers-renamed f [] = refl
node_numbers-renamed f (Var v ∷ ns) = ap (λ w. w ∷ node_numbers (λ x. x) (map (rename (λ x. 0 + f x)) ns) []) (zero_more (f v)) ∙ ap (λ l. f v ∷ l) (node_numbers-renamed f ns)
node_numbers-renamed f (Int i ∷ ns) = node_numbers-renamed f ns
node_numbers-renamed f (Atom s ∷ ns) = node_numbers-renamed f ns
node_numbers-renamed f (Compound s k ∷ ns) = node_numbers-renamed f ns

pub rename_zero : (f : ℕ → ℕ) (ns : List Node) → map (rename (λ v. 0 + f v)) ns ≡ map (rename f) ns
rename_zero f [] = refl
rename_zero f (Var v ∷ ns) = ap (λ w. Var w ∷ map (rename (λ x. 0 + f x)) ns) (zero_more (f v)) ∙ ap (λ l. Var (f v) ∷ l) (rename_zero f ns)
rename_zero f (Int i ∷ ns) = ap (λ l. Int i ∷ l) (rename_zero f ns)
rename_zero f (Atom s ∷ ns) = ap (λ l. Atom s ∷ l) (rename_zero f ns)
rename_zero f (Compound s k ∷ ns) = ap (λ l. Compound s k ∷ l) (rename_zero f ns)

pub same_tree : (t u : Tree) → spelling t ≡ spelling u → t ≡ u
same_tree t u e = sym (tree_of-spelling t) ∙ ap tree_of e ∙ tree_of-spelling u

pub copied_again : (t : Tree) → IsVariant (copied 0 t) t
copied_again t =
    let number : ℕ → ℕ = λ v. place v (variables t) in
    let u : Tree = copied 0 t in
    let nodes : List Node = spelling u in
    let order : InOrder (length (variables t)) 0 (node_numbers (λ v. v) nodes []) =
    subst (InOrder (length (variables t)) 0) (sym (ap (λ ns. node_numbers (λ v. v) ns []) (spelling-renamed (λ v. 0 + number v) t) ∙ node_numbers-renamed number (spelling t))) (in_order (variables t) (spelling t) [] refl) in
    let kept : map (rename (λ v. place v (variables u))) nodes ≡ nodes = sym (numbering_is nodes []) ∙ numbering_again (length (variables t)) 0 nodes order in
    same_tree (copied 0 u) u (spelling-renamed (λ v. 0 + place v (variables u)) u ∙ rename_zero (λ v. place v (variables u)) nodes ∙ kept)
