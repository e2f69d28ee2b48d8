-- The terms of clauses as expressions.
use Rattle.std.proofs.Common.{◌≡◌, ℕ, zero, suc, ◌+◌, ◌<◌, ◌≤◌, List, [], ◌∷◌, length, refl, sym, ap, ap₂, ◌∙◌, subst, arith, inl, inr, ℤ, Ok, Option, Some, None}
use Rattle.std.proofs.lemmas.Bool.{cases_lt}
use Rattle.std.proofs.lemmas.List.Elements.{All-nil, All-cons, All-head, All-tail}
use Rattle.plterm.specs.Tree.{Tree, Trees, var, int, atom, compound, none, more, trees, list_of, trees-list_of}
use Rattle.plterm.proofs.Forests.{list_of-trees}
use Rattle.plterm.specs.Variables.{AllBelow, EachBelow}
use Rattle.plsubst.specs.Subst.{bind, bind_all}
use Rattle.platoms.specs.declared.evaluable.Binary.{Binary}
use Rattle.platoms.specs.declared.evaluable.Operation.{Operation}
use Rattle.platoms.specs.declared.evaluable.Operation.TheVariants as ops
use Rattle.platoms.specs.Evaluable.{binary_of, operation_of}
use Rattle.platoms.specs.Names.{Table, functor_arity, functor_name, operation_at}
use Rattle.plcells.specs.Store.{spread}
use Rattle.plcode.specs.declared.node.Node.{Node}
use Rattle.plcode.specs.declared.node.Node.TheVariants as node
use Rattle.plcode.specs.Nodes.{IsNamed, values, value as node_value, tree as value_tree}
use Rattle.plcode.specs.Packed.{node_at, IsArgument}
use Rattle.plenv.specs.Env.{Env, over, variable}
use Rattle.platoms.specs.Names.{atom_at}
use Rattle.plenv.specs.Rows.{tree_at}
use Rattle.plhead.specs.Fitting.{IsCompoundAt}
use Rattle.plhead.proofs.Trees.{length-spread, tree-at, named-at, compound-at}
use Rattle.plarith.specs.declared.operand.Operand.TheVariants as operands
use Rattle.plarith.specs.declared.operand.Opened.{Opened}
use Rattle.plarith.specs.declared.operand.Opened.TheVariants.{Known, One, Two}
use Rattle.plarith.specs.Evaluation.{by_two, eval, not_evaluable}
use Rattle.plarith.specs.Operations.{binary}
use Rattle.plarith.specs.Operands.{Opens}
use Rattle.plarith.specs.Values.{IsOperand as IsHeapOperand, tree as heap_tree}
use Rattle.plarith.proofs.Opening.{is_one, is_two, opens_integer, opens_atom, opens_one, opens_two, opens_none}
use Rattle.plexpression.specs.declared.pair.Pair.{Pair}
use Rattle.plexpression.specs.Nodes.{IsNode, IsOperand, IsPair, tree, seen_by, seen_block}

length-bind_all : (σ : ℕ → Tree) (ts : Trees) → length (list_of (bind_all σ ts)) ≡ length (list_of ts)
unfolding bind
length-bind_all σ none = refl
length-bind_all σ (more t ts) = ap suc (length-bind_all σ ts)

each_below : (w : ℕ → Tree) (k a n : ℕ) → EachBelow n (trees (spread w a k)) → (j : ℕ) → a ≤ j → j < a + k → AllBelow n (w j)
each_below w zero a n below j above within = absurd (omega arith)
each_below w (suc k) a n below j above within =
    elim (cases_lt a j) [
      | inl later ↦ each_below w k (suc a) n below.1 j (omega arith) (omega arith)
      | inr first ↦ subst (λ i. AllBelow n (w i)) (omega arith) below.0
    ]

next : (root : ℕ) → suc root ≡ root + 1
next root = omega arith

after_next : (root : ℕ) → suc (suc root) ≡ root + 2
after_next root = omega arith

abbrev node_tree : Table → List Node → Node → Tree
node_tree t nodes n = value_tree (node_value t (values t nodes) n)

module _ (e : Env) (nodes : List Node) (base : ℕ) where
  -- the parts of what a value is seen to be are values
  pub opens_value : (t : Tree) (o : Opened) → Opens (heap_tree e.heap) (IsHeapOperand e.heap) t o → Opens (tree e nodes base) (IsOperand e nodes base) t o
  opens_value t (Known r) opens = record { is = opens.is; there = All-nil (IsOperand e nodes base); lighter = opens.lighter }
  opens_value t (One f (operands.Value v)) opens = record {
    is = opens.is;
    there = All-cons (IsOperand e nodes base) (operands.Value v) [] (All-head (IsHeapOperand e.heap) (operands.Value v) [] opens.there) (All-nil (IsOperand e nodes base));
    lighter = opens.lighter;
  }
  opens_value t (One f (operands.Node n)) opens = absurd (All-head (IsHeapOperand e.heap) (operands.Node n) [] opens.there)
  opens_value t (Two f (operands.Value v) (operands.Value u)) opens =
      let rest = All-tail (IsHeapOperand e.heap) (operands.Value v) (operands.Value u ∷ []) opens.there in
      record {
        is = opens.is;
        there = All-cons (IsOperand e nodes base) (operands.Value v) (operands.Value u ∷ []) (All-head (IsHeapOperand e.heap) (operands.Value v) (operands.Value u ∷ []) opens.there)
            (All-cons (IsOperand e nodes base) (operands.Value u) [] (All-head (IsHeapOperand e.heap) (operands.Value u) [] rest) (All-nil (IsOperand e nodes base)));
        lighter = opens.lighter;
      }
  opens_value t (Two f (operands.Value v) (operands.Node n)) opens = absurd (All-head (IsHeapOperand e.heap) (operands.Node n) [] (All-tail (IsHeapOperand e.heap) (operands.Value v) (operands.Node n ∷ []) opens.there))
  opens_value t (Two f (operands.Node n) q) opens = absurd (All-head (IsHeapOperand e.heap) (operands.Node n) (q ∷ []) opens.there)

  pub shows : (at : ℕ) (n : Node) → IsNode e nodes base at → node_at nodes at ≡ n → tree_at e.heap.names nodes at ≡ node_tree e.heap.names nodes n
  shows at n is here = tree-at e.heap.names nodes is.laid.sound at n is.within here

  -- a variable has a slot
  pub slot_within : (at x : ℕ) → IsNode e nodes base at → node_at nodes at ≡ node.Var x → base + x < length e.slots
  slot_within at x is here =
      let low : x < is.covers.width = subst (AllBelow is.covers.width) (shows at (node.Var x) is here) is.covers.below in
      omega (arith, low, is.covers.within)

  pub variable_shown : (at x : ℕ) → IsNode e nodes base at → node_at nodes at ≡ node.Var x → variable e (base + x) ≡ tree e nodes base (operands.Node at)
  unfolding bind
  variable_shown at x is here = sym (ap (bind (over e base)) (shows at (node.Var x) is here))

  pub opens_int : (at : ℕ) (i : ℤ) → IsNode e nodes base at → node_at nodes at ≡ node.Int i → Opens (tree e nodes base) (IsOperand e nodes base) (tree e nodes base (operands.Node at)) (Known (Ok i))
  unfolding bind
  opens_int at i is here = opens_integer (tree e nodes base) (IsOperand e nodes base) (tree e nodes base (operands.Node at)) i (ap (bind (over e base)) (shows at (node.Int i) is here))

  pub named_within : (at a : ℕ) → IsNode e nodes base at → node_at nodes at ≡ node.Atom a → a < length e.heap.names.atoms
  named_within at a is here = subst (IsNamed e.heap.names) here (named-at e.heap.names nodes is.laid.sound at is.within)

  pub opens_name : (at a : ℕ) → IsNode e nodes base at → node_at nodes at ≡ node.Atom a → Opens (tree e nodes base) (IsOperand e nodes base) (tree e nodes base (operands.Node at)) (Known (not_evaluable (atom_at e.heap.names a) 0))
  unfolding bind
  opens_name at a is here = opens_atom (tree e nodes base) (IsOperand e nodes base) (tree e nodes base (operands.Node at)) (atom_at e.heap.names a) (ap (bind (over e base)) (shows at (node.Atom a) is here))

  pub compound_there : (at from root : ℕ) → IsNode e nodes base at → node_at nodes at ≡ node.Sub from root → IsCompoundAt e.heap.names nodes root (tree_at e.heap.names nodes at)
  compound_there at from root is here = compound-at e.heap.names nodes is.laid.sound is.laid.packed at from root is.within here

  -- by what its functor evaluates to
  by_operation : (root k : ℕ) (name : List ℕ) (t : Tree) → t ≡ bind (over e base) (compound name (trees (spread (tree_at e.heap.names nodes) (suc root) k))) → ((j : ℕ) → root < j → j ≤ root + k → IsNode e nodes base j) → (o : Option Operation) → operation_of name k ≡ o →
      Opens (tree e nodes base) (IsOperand e nodes base) t (seen_by o name k root)
  unfolding bind
  by_operation root k name t is each None missing =
      let us = spread (tree_at e.heap.names nodes) (suc root) k in
      let bound = bind_all (over e base) (trees us) in
      opens_none (tree e nodes base) (IsOperand e nodes base) t name (list_of bound) k (is ∙ ap (compound name) (sym (trees-list_of bound)))
      (length-bind_all (over e base) (trees us) ∙ ap length (list_of-trees us) ∙ length-spread (tree_at e.heap.names nodes) k (suc root)) missing
  by_operation root k name t is each (Some (ops.One f)) known =
      let one = is_one name k f known in
      let first = ap (λ j. tree e nodes base (operands.Node j)) (next root) in
      let shown = ap (λ i. bind (over e base) (compound name (trees (spread (tree_at e.heap.names nodes) (suc root) i)))) one.0 in
      opens_one (tree e nodes base) (IsOperand e nodes base) t name f (operands.Node (root + 1)) one.1 (is ∙ shown ∙ ap (λ u. compound name (more u none)) first) (each (root + 1) (omega arith) (omega (arith, one.0)))
  by_operation root k name t is each (Some (ops.Two f)) known =
      let two = is_two name k f known in
      let first = ap (λ j. tree e nodes base (operands.Node j)) (next root) in
      let second = ap (λ j. tree e nodes base (operands.Node j)) (after_next root) in
      let shown = ap (λ i. bind (over e base) (compound name (trees (spread (tree_at e.heap.names nodes) (suc root) i)))) two.0 in
      opens_two (tree e nodes base) (IsOperand e nodes base) t name f (operands.Node (root + 1)) (operands.Node (root + 2)) two.1 (is ∙ shown ∙ ap₂ (λ u v. compound name (more u (more v none))) first second) (each (root + 1) (omega arith) (omega (arith, two.0)))
      (each (root + 2) (omega arith) (omega (arith, two.0)))

  -- the arguments of a compound
  pub argument_there : (at root : ℕ) → IsNode e nodes base at → (c : IsCompoundAt e.heap.names nodes root (tree_at e.heap.names nodes at)) → (j : ℕ) → root < j → j ≤ root + c.arity → IsNode e nodes base j
  argument_there at root is c j above within =
      let below = subst (AllBelow is.covers.width) c.is is.covers.below in
      record {
        laid = is.laid;
        within = omega (arith, within, c.within);
        whole = c.whole j above within;
        covers = record { width = is.covers.width; below = each_below (tree_at e.heap.names nodes) c.arity (suc root) is.covers.width below j (omega (arith, above)) (omega (arith, within)); within = is.covers.within };
      }

  pub opens_compound : (at root : ℕ) → IsNode e nodes base at → (c : IsCompoundAt e.heap.names nodes root (tree_at e.heap.names nodes at)) →
      Opens (tree e nodes base) (IsOperand e nodes base) (tree e nodes base (operands.Node at)) (seen_block (functor_name e.heap.names c.functor) c.arity root)
  opens_compound at root is c =
      let name = functor_name e.heap.names c.functor in
      by_operation root c.arity name (tree e nodes base (operands.Node at)) (ap (bind (over e base)) c.is) (argument_there at root is c) (operation_of name c.arity) refl

  -- a compound of two arguments, by its block
  pub pair_there : (at from root f : ℕ) → IsNode e nodes base at → node_at nodes at ≡ node.Sub from root → node_at nodes root ≡ node.Fun f 2 → IsPair e nodes base at (record { functor = f; left = root + 1; right = root + 2 })
  pair_there at from root f is here head =
      let c = compound_there at from root is here in
      let same : node.Fun c.functor c.arity ≡ node.Fun f 2 = sym c.head ∙ head in
      let functor_is : c.functor ≡ f = cc in
      let two : c.arity ≡ 2 = cc in
      let w = tree_at e.heap.names nodes in
      record {
        left = argument_there at root is c (root + 1) (omega arith) (omega (arith, two));
        right = argument_there at root is c (root + 2) (omega arith) (omega (arith, two));
        known = omega (arith, functor_is, c.known);
        arity = ap (functor_arity e.heap.names) (sym functor_is) ∙ c.arity_is ∙ two;
        is =
            c.is
            ∙ ap₂ (λ g k. compound (functor_name e.heap.names g) (trees (spread w (suc root) k))) functor_is two
            ∙ ap₂ (λ i j. compound (functor_name e.heap.names f) (trees (w i ∷ w j ∷ []))) (next root) (after_next root);
      }

  -- a compound of another number of arguments
  pub pair_none : (at from root : ℕ) → IsNode e nodes base at → node_at nodes at ≡ node.Sub from root → ((f : ℕ) → node_at nodes root ≡ node.Fun f 2 → ⊥) → (f : List ℕ) (t u : Tree) →
      tree_at e.heap.names nodes at ≡ compound f (trees (t ∷ u ∷ [])) → ⊥
  pair_none at from root is here other f t u e2 =
      let c = compound_there at from root is here in
      let us = spread (tree_at e.heap.names nodes) (suc root) c.arity in
      let same : compound (functor_name e.heap.names c.functor) (trees us) ≡ compound f (trees (t ∷ u ∷ [])) = sym c.is ∙ e2 in
      let args : trees us ≡ trees (t ∷ u ∷ []) = cc in
      let two : c.arity ≡ 2 = sym (length-spread (tree_at e.heap.names nodes) c.arity (suc root)) ∙ ap length (sym (list_of-trees us)) ∙ ap (λ ts. length (list_of ts)) args in
      other c.functor (c.head ∙ ap (node.Fun c.functor) two)

  -- a node that is no compound
  pub leaf_none : (at : ℕ) → IsNode e nodes base at → ((from root : ℕ) → node_at nodes at ≡ node.Sub from root → ⊥) → (f : List ℕ) (t u : Tree) → tree_at e.heap.names nodes at ≡ compound f (trees (t ∷ u ∷ [])) → ⊥
  leaf_none at is other f t u e2 = go (node_at nodes at) refl is.whole
    where
      go : (n : Node) → node_at nodes at ≡ n → IsArgument 0 at n → ⊥
      go (node.Var x) here w = let d : tree_at e.heap.names nodes at ≡ var x = shows at (node.Var x) is here in absurd (cc)
      go (node.Int i) here w = let d : tree_at e.heap.names nodes at ≡ int i = shows at (node.Int i) is here in absurd (cc)
      go (node.Atom a) here w = let d : tree_at e.heap.names nodes at ≡ atom (atom_at e.heap.names a) = shows at (node.Atom a) is here in absurd (cc)
      go (node.Fun g k) here w = absurd w
      go (node.Sub from root) here w = absurd (other from root here)

-- an operation of two numbers
pub of-pair : (e : Env) (nodes : List Node) (base at : ℕ) (p : Pair) → IsPair e nodes base at p → (f : Binary) (x y : ℤ) → operation_at e.heap.names p.functor ≡ Some (ops.Two f) →
    tree e nodes base (operands.Node p.left) ≡ int x → tree e nodes base (operands.Node p.right) ≡ int y → eval (tree e nodes base (operands.Node at)) ≡ binary f x y
unfolding bind eval
of-pair e nodes base at p is f x y known left right =
    let name = functor_name e.heap.names p.functor in
    let two = is_two name 2 f (sym (ap (operation_of name) is.arity) ∙ known) in
    ap (λ t. eval (bind (over e base) t)) is.is
    ∙ ap₂ (λ u v. by_two (binary_of name) name (eval u) (eval v)) left right
    ∙ ap (λ o. by_two o name (Ok x) (Ok y)) two.1
