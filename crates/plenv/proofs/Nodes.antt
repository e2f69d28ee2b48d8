-- What the nodes of clauses stand for.
use Rattle.std.proofs.Common.{◌≡◌, ℕ, zero, suc, ◌<◌, List, [], ◌∷◌, ◌++◌, length, take, drop, map, fold, get_or, refl, sym, ap, ◌∙◌, subst, arith, append_assoc, append-nil}
use Rattle.std.proofs.Math.Seq.{drop-cons}
use Rattle.plterm.specs.Tree.{var, compound, trees}
use Rattle.platoms.specs.Names.{Table, functor_name}
use Rattle.plcode.specs.declared.node.Node.{Node}
use Rattle.plcode.specs.declared.node.Node.TheVariants.{Var, Int, Atom, Fun, Sub}
use Rattle.plcode.specs.Nodes.{Value, Whole, Head, tree, block, value, with_node, values, IsBlock, Rests, IsNamed, AllNamed, AllRest}
use Rattle.plcode.specs.Packed.{node_at}
use Rattle.plcode.proofs.Values.{value-more, Rests-more, length-values}

fold_prefix : (t : Table) (vs : List Value) (ns : List Node) → (ws : List Value) × (fold (with_node t) vs ns ≡ vs ++ ws)
fold_prefix t vs [] = ([], sym (append-nil vs))
fold_prefix t vs (n ∷ ns) =
    let p = fold_prefix t (with_node t vs n) ns in
    (value t vs n ∷ p.0, p.1 ∙ append_assoc vs (value t vs n ∷ []) p.0)

fold_map : (t : Table) (vs : List Value) (ns : List Node) → AllRest t vs ns → fold (with_node t) vs ns ≡ vs ++ map (value t (fold (with_node t) vs ns)) ns
fold_map t vs [] rest = sym (append-nil vs)
fold_map t vs (n ∷ ns) rest =
    let all : List Value = fold (with_node t) (with_node t vs n) ns in
    let p = fold_prefix t (with_node t vs n) ns in
    let longer : all ≡ vs ++ (value t vs n ∷ p.0) = p.1 ∙ append_assoc vs (value t vs n ∷ []) p.0 in
    let same : value t all n ≡ value t vs n = ap (λ ws. value t ws n) longer ∙ value-more t vs (value t vs n ∷ p.0) n rest.0 in
    fold_map t (with_node t vs n) ns rest.1
    ∙ append_assoc vs (value t vs n ∷ []) (map (value t all) ns)
    ∙ ap (λ v. vs ++ v ∷ map (value t all) ns) (sym same)

-- each node's value is over the values of all
pub values-map : (t : Table) (ns : List Node) → AllRest t [] ns → values t ns ≡ map (value t (values t ns)) ns
unfolding values
values-map t ns rest = fold_map t [] ns rest

rests_fold : (t : Table) (vs : List Value) (ns : List Node) (i : ℕ) → AllRest t vs ns → i < length ns → Rests (fold (with_node t) vs ns) (node_at ns i)
rests_fold t vs [] i rest lt = absurd (omega arith)
rests_fold t vs (n ∷ ns) zero rest lt =
    let p = fold_prefix t (with_node t vs n) ns in
    subst (λ ws. Rests ws n) (sym (p.1 ∙ append_assoc vs (value t vs n ∷ []) p.0)) (Rests-more vs (value t vs n ∷ p.0) n rest.0)
rests_fold t vs (n ∷ ns) (suc i) rest lt = rests_fold t (with_node t vs n) ns i rest.1 (omega arith)

-- what each node rests on is there
pub rests-at : (t : Table) (ns : List Node) (i : ℕ) → AllRest t [] ns → i < length ns → Rests (values t ns) (node_at ns i)
unfolding values
rests-at t ns i rest lt = rests_fold t [] ns i rest lt

pub named-at : (t : Table) (ns : List Node) (i : ℕ) → AllNamed t ns → i < length ns → IsNamed t (node_at ns i)
named-at t [] i named lt = absurd (omega arith)
named-at t (n ∷ ns) zero named lt = named.0
named-at t (n ∷ ns) (suc i) named lt = named-at t ns i named.1 (omega arith)

map-drop : {A B : Type 0} (f : A → B) (k : ℕ) (xs : List A) → drop k (map f xs) ≡ map f (drop k xs)
map-drop f zero xs = refl
map-drop f (suc k) [] = refl
map-drop f (suc k) (x ∷ xs) = map-drop f k xs

map-take : {A B : Type 0} (f : A → B) (k : ℕ) (xs : List A) → take k (map f xs) ≡ map f (take k xs)
map-take f zero xs = refl
map-take f (suc k) [] = refl
map-take {A} {B} f (suc k) (x ∷ xs) = ap (λ (ys : List B). f x ∷ ys) (map-take f k xs)

pub get-map : {A B : Type 0} (f : A → B) (xs : List A) (i : ℕ) (d : A) (e : B) → i < length xs → get_or (map f xs) i e ≡ f (get_or xs i d)
get-map f [] i d e lt = absurd (omega arith)
get-map f (x ∷ xs) zero d e lt = refl
get-map f (x ∷ xs) (suc i) d e lt = get-map f xs i d e (omega arith)

pub value-at : (t : Table) (ns : List Node) (i : ℕ) → AllRest t [] ns → i < length ns → get_or (values t ns) i (Whole (var 0)) ≡ value t (values t ns) (node_at ns i)
value-at t ns i rest lt = ap (λ vs. get_or vs i (Whole (var 0))) (values-map t ns rest) ∙ get-map (value t (values t ns)) ns i (Var 0) (Whole (var 0)) lt

-- the terms of the nodes of a row
pub row-terms : (t : Table) (ns : List Node) (at k : ℕ) → AllRest t [] ns → map tree (take k (drop at (values t ns))) ≡ map (λ n. tree (value t (values t ns) n)) (take k (drop at ns))
row-terms t ns at k rest =
    ap (λ vs. map tree (take k (drop at vs))) (values-map t ns rest)
    ∙ ap (λ vs. map tree (take k vs)) (map-drop (value t (values t ns)) at ns)
    ∙ ap (map tree) (map-take (value t (values t ns)) k (drop at ns))
    ∙ twice (take k (drop at ns))
  where
    twice : (ms : List Node) → map tree (map (value t (values t ns)) ms) ≡ map (λ n. tree (value t (values t ns) n)) ms
    twice [] = refl
    twice (m ∷ ms) = ap (λ us. tree (value t (values t ns) m) ∷ us) (twice ms)

-- the compound of a block
pub block-is : (t : Table) (ns : List Node) (p f k : ℕ) → AllRest t [] ns → p < length ns → node_at ns p ≡ Fun f k
    → block (drop p (values t ns)) ≡ compound (functor_name t f) (trees (map (λ n. tree (value t (values t ns) n)) (take k (drop (suc p) ns))))
block-is t ns p f k rest lt is =
    let within : p < length (values t ns) = omega (arith, lt, length-values t ns) in
    let head : get_or (values t ns) p (Whole (var 0)) ≡ Head (functor_name t f) k = value-at t ns p rest lt ∙ ap (value t (values t ns)) is in
    ap block (drop-cons (values t ns) p (Whole (var 0)) within ∙ ap (λ v. v ∷ drop (suc p) (values t ns)) head)
    ∙ ap (λ us. compound (functor_name t f) (trees us)) (row-terms t ns (suc p) k rest)

-- where a block begins stands its head
head-of : (t : Table) (vs : List Value) (n : Node) (rest : List Value) → IsBlock (value t vs n ∷ rest) → (f k : ℕ) × (n ≡ Fun f k)
head-of t vs (Var s) rest b = absurd b
head-of t vs (Int i) rest b = absurd b
head-of t vs (Atom a) rest b = absurd b
head-of t vs (Fun f k) rest b = (f, k, refl)
head-of t vs (Sub from root) rest b = absurd b

pub head-at : (t : Table) (ns : List Node) (p : ℕ) → AllRest t [] ns → p < length ns → IsBlock (drop p (values t ns)) → (f k : ℕ) × (node_at ns p ≡ Fun f k)
head-at t ns p rest lt b =
    let within : p < length (values t ns) = omega (arith, lt, length-values t ns) in
    head-of t (values t ns) (node_at ns p) (drop (suc p) (values t ns))
    (subst IsBlock (drop-cons (values t ns) p (Whole (var 0)) within ∙ ap (λ v. v ∷ drop (suc p) (values t ns)) (value-at t ns p rest lt)) b)
