-- The order of terms goes by their nodes in prefix order.
use Rattle.std.proofs.Common.{◌≡◌, ℕ, ◌<◌, ◌≤◌, ◌⊎◌, List, [], ◌∷◌, ◌++◌, length, take, drop, reverse, refl, ap, ap₂, ◌∙◌, sym, arith, inl, inr, length-take}
use Rattle.std.specs.declared.cmp.Ordering.{Ordering}
use Rattle.std.specs.declared.cmp.Ordering.TheVariants.{Less, Equal, Greater}
use Rattle.std.specs.Ordering.{nat_cmp, ordering_then}
use Rattle.std.specs.Cmp.Lexicographic.{slice_cmp}
use Rattle.std.proofs.lemmas.Bool.Decides.{nat_tests}
use Rattle.std.proofs.lemmas.List.{take-append-drop, length-reverse}
use Rattle.std.proofs.lemmas.Map.Lookups.{exact_unsigned}
use Rattle.plterm.specs.declared.node.Node.{Node}
use Rattle.plterm.specs.declared.node.Node.TheVariants.{Var, Int, Atom, Compound}
use Rattle.plterm.specs.Tree.{Tree, trees}
use Rattle.plterm.specs.Reading.{arity, read, reading, tree_of, IsForest, IsTerm}
use Rattle.plterm.specs.Order.{name_order, functor_order, order, arguments_order}
use Rattle.plterm.specs.Comparing.{node_order}
use Rattle.plterm.proofs.Forests.{length-read, reading_term}
use Rattle.plterm.proofs.Spellings.{length-take_room}
use Rattle.plterm.proofs.Orders.{then_first}

then_assoc : (o p q : Ordering) → ordering_then (ordering_then o p) q ≡ ordering_then o (ordering_then p q)
then_assoc Less p q = refl
then_assoc Equal p q = refl
then_assoc Greater p q = refl

then_same : (o x y : Ordering) → (o ≡ Equal → x ≡ y) → ordering_then o x ≡ ordering_then o y
then_same Less x y h = refl
then_same Equal x y h = h refl
then_same Greater x y h = refl

then_equal : (o : Ordering) → ordering_then o Equal ≡ o
then_equal Less = refl
then_equal Equal = refl
then_equal Greater = refl

arity-same : (m n : Node) → node_order m n ≡ Equal → arity m ≡ arity n
arity-same (Var v) (Var w) h = refl
arity-same (Var v) (Compound r l) h = cc
arity-same (Int i) (Int j) h = refl
arity-same (Int i) (Compound r l) h = cc
arity-same (Atom s) (Atom r) h = refl
arity-same (Atom s) (Compound r l) h = cc
arity-same (Compound s k) (Compound r l) h = exact_unsigned k l (then_first (nat_cmp k l) (name_order s r) h)
arity-same (Compound s k) n h = cc
arity-same m n h = refl

-- terms one after another
abbrev list_order : List Tree → List Tree → Ordering
list_order ts us = arguments_order (trees ts) (trees us)

list_order-append : (xs bs cs ds : List Tree) → length xs ≡ length bs → list_order (xs ++ cs) (bs ++ ds) ≡ ordering_then (list_order xs bs) (list_order cs ds)
unfolding order
list_order-append [] [] cs ds e = refl
list_order-append [] (b ∷ bs) cs ds e = absurd (omega arith)
list_order-append (a ∷ xs) [] cs ds e = absurd (omega arith)
list_order-append (a ∷ xs) (b ∷ bs) cs ds e =
    ap (ordering_then (order a b)) (list_order-append xs bs cs ds (omega arith)) ∙ sym (then_assoc (order a b) (list_order xs bs) (list_order cs ds))

-- the arguments, and what follows them
parted_order : (k l : ℕ) (ts us : List Tree) → k ≤ length ts → l ≤ length us → k ≡ l
    → ordering_then (list_order (take k ts) (take l us)) (list_order (drop k ts) (drop l us)) ≡ list_order ts us
parted_order k l ts us room room' e =
    sym (list_order-append (take k ts) (take l us) (drop k ts) (drop l us) (omega (arith, length-take k ts, length-take l us)))
    ∙ ap₂ list_order (take-append-drop k ts) (take-append-drop l us)

read-order : (m n : Node) (ts us : List Tree) → arity m ≤ length ts → arity n ≤ length us → list_order (read m ts) (read n us) ≡ ordering_then (node_order m n) (list_order ts us)
unfolding order
read-order (Compound s p) (Compound r l) ts us h k =
    let args = list_order (take p ts) (take l us) in
    let after = list_order (drop p ts) (drop l us) in
    ap₂ (λ (x y : ℕ). ordering_then (ordering_then (functor_order s x r y) args) after) (length-take_room p ts h) (length-take_room l us k)
    ∙ then_assoc (functor_order s p r l) args after
    ∙ then_same (functor_order s p r l) (ordering_then args after) (list_order ts us) (λ e. parted_order p l ts us h k (arity-same (Compound s p) (Compound r l) e))
read-order (Var v) (Var w) ts us h k = refl
read-order (Var v) (Int j) ts us h k = refl
read-order (Var v) (Atom r) ts us h k = refl
read-order (Var v) (Compound r l) ts us h k = refl
read-order (Int i) (Var w) ts us h k = refl
read-order (Int i) (Int j) ts us h k = refl
read-order (Int i) (Atom r) ts us h k = refl
read-order (Int i) (Compound r l) ts us h k = refl
read-order (Atom s) (Var w) ts us h k = refl
read-order (Atom s) (Int j) ts us h k = refl
read-order (Atom s) (Atom r) ts us h k = refl
read-order (Atom s) (Compound r l) ts us h k = refl
read-order (Compound s p) (Var w) ts us h k = refl
read-order (Compound s p) (Int j) ts us h k = refl
read-order (Compound s p) (Atom r) ts us h k = refl

nodes_list_order : (ms ns : List Node) → IsForest ms → IsForest ns → length (reading ms) ≡ length (reading ns) → slice_cmp node_order ms ns ≡ list_order (reading ms) (reading ns)
unfolding order
nodes_list_order [] [] f g e = refl
nodes_list_order [] (n ∷ ns) f g e = absurd (omega (arith, length-read n (reading ns) g.1, g.1))
nodes_list_order (m ∷ ms) [] f g e = absurd (omega (arith, length-read m (reading ms) f.1, f.1))
nodes_list_order (m ∷ ms) (n ∷ ns) f g e =
    then_same (node_order m n) (slice_cmp node_order ms ns) (list_order (reading ms) (reading ns))
    (λ same. nodes_list_order ms ns f.2 g.2 (omega (arith, e, arity-same m n same, length-read m (reading ms) f.1, length-read n (reading ns) g.1)))
    ∙ sym (read-order m n (reading ms) (reading ns) f.1 g.1)

-- terms are ordered as their nodes are
pub nodes-order : (ms ns : List Node) → IsTerm ms → IsTerm ns → slice_cmp node_order ms ns ≡ order (tree_of ms) (tree_of ns)
unfolding order
nodes-order ms ns h k =
    nodes_list_order ms ns h.forest k.forest (h.one ∙ sym k.one)
    ∙ ap₂ list_order (reading_term ms h) (reading_term ns k)
    ∙ then_equal (order (tree_of ms) (tree_of ns))

-- the first nodes differ, and decide
then_decided : (o p q : Ordering) → o ≡ p → (o ≡ Equal → ⊥) → o ≡ ordering_then p q
then_decided o Less q e h = e
then_decided o Equal q e h = absurd (h e)
then_decided o Greater q e h = e

pub order_decided : (ms ns xs ys : List Node) (m n : Node) (o : Ordering) → ms ≡ m ∷ xs → ns ≡ n ∷ ys → o ≡ node_order m n → (o ≡ Equal → ⊥) → o ≡ slice_cmp node_order ms ns
order_decided ms ns xs ys m n o e f is decides = rw (e, f) (then_decided o (node_order m n) (slice_cmp node_order xs ys) is decides)

nat_less : (k : ℕ) → 0 < k → nat_cmp 0 k ≡ Less
nat_less k h = grind (arith, nat_tests)

nat_greater : (k : ℕ) → 0 < k → nat_cmp k 0 ≡ Greater
nat_greater k h = grind (arith, nat_tests)

-- one list has ended
order_ended : (ms ns : List Node) → (length ms ≡ 0) ⊎ (length ns ≡ 0) → nat_cmp (length ms) (length ns) ≡ slice_cmp node_order ms ns
order_ended [] [] h = refl
order_ended [] (n ∷ ns) h = nat_less (length (n ∷ ns)) (omega arith)
order_ended (m ∷ ms) [] h = nat_greater (length (m ∷ ms)) (omega arith)
order_ended (m ∷ ms) (n ∷ ns) h = absurd (omega arith)

pub order_ended-reverse : (xs ys : List Node) → (length xs ≡ 0) ⊎ (length ys ≡ 0) → nat_cmp (length xs) (length ys) ≡ slice_cmp node_order (reverse xs) (reverse ys)
order_ended-reverse xs ys h =
    ap₂ nat_cmp (sym (length-reverse xs)) (sym (length-reverse ys))
    ∙ order_ended (reverse xs) (reverse ys) (elim h [ inl e ↦ inl (length-reverse xs ∙ e) | inr e ↦ inr (length-reverse ys ∙ e) ])
