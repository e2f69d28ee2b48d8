-- What the nodes of clauses stand for, each by its place.
use Rattle.std.proofs.Common.{◌≡◌, ℕ, zero, suc, ◌+◌, ◌<◌, ◌≤◌, List, [], ◌∷◌, ◌++◌, length, map, take, drop, fold, get_or, refl, sym, ap, ◌∙◌, subst, arith, add-zero, append_assoc, append-nil, length-append, drop-cons}
use Rattle.std.proofs.Math.Seq.{get_or-append_seam}
use Rattle.plterm.specs.Tree.{Tree, var, compound, trees}
use Rattle.platoms.specs.Names.{Table, Extends, functor_name}
use Rattle.plcells.specs.Store.{spread}
use Rattle.plcode.specs.declared.node.Node.{Node}
use Rattle.plcode.specs.declared.node.Node.TheVariants.{Var, Int, Atom, Fun, Sub}
use Rattle.plcode.specs.Nodes.{Value, Whole, Head, tree, block, value, with_node, values, row, IsNamed, AllNamed, AllRest, IsSound}
use Rattle.plcode.specs.Laying.{IsLaid}
use Rattle.plcode.specs.Packed.{node_at, ArePacked, IsArgument, IsBlockAt, Packed, last, next}
use Rattle.plcode.proofs.Values.{value-more, length-values, values-names}
use Rattle.plenv.specs.Rows.{tree_at}
use Rattle.plhead.specs.Fitting.{IsCompoundAt}

fold_more : (t : Table) (vs : List Value) (ns : List Node) → (ws : List Value) × (fold (with_node t) vs ns ≡ vs ++ ws)
fold_more t vs [] = ([], sym (append-nil vs))
fold_more t vs (n ∷ ns) =
    let p = fold_more t (with_node t vs n) ns in
    (value t vs n ∷ p.0, p.1 ∙ append_assoc vs (value t vs n ∷ []) p.0)

value_in : (t : Table) (vs : List Value) (ns : List Node) (i : ℕ) (d : Value) → AllRest t vs ns → i < length ns → get_or (fold (with_node t) vs ns) (length vs + i) d ≡ value t (fold (with_node t) vs ns) (get_or ns i (Var 0))
value_in t vs [] i d rest lt = absurd (omega arith)
value_in t vs (n ∷ ns) zero d rest lt =
    let p = fold_more t (with_node t vs n) ns in
    let e : fold (with_node t) (with_node t vs n) ns ≡ vs ++ value t vs n ∷ p.0 = p.1 ∙ append_assoc vs (value t vs n ∷ []) p.0 in
    ap (λ us. get_or us (length vs + 0) d) e
    ∙ ap (λ j. get_or (vs ++ value t vs n ∷ p.0) j d) (add-zero (length vs))
    ∙ get_or-append_seam vs (value t vs n) p.0 d
    ∙ sym (value-more t vs (value t vs n ∷ p.0) n rest.0)
    ∙ ap (λ us. value t us n) (sym e)
value_in t vs (n ∷ ns) (suc i) d rest lt =
    let at : length vs + suc i ≡ length (with_node t vs n) + i = omega (arith, length-append vs (value t vs n ∷ [])) in
    ap (λ j. get_or (fold (with_node t) (with_node t vs n) ns) j d) at ∙ value_in t (with_node t vs n) ns i d rest.1 (omega (arith, lt))

named_in : (t : Table) (ns : List Node) (i : ℕ) → AllNamed t ns → i < length ns → IsNamed t (get_or ns i (Var 0))
named_in t [] i named lt = absurd (omega arith)
named_in t (n ∷ ns) zero named lt = named.0
named_in t (n ∷ ns) (suc i) named lt = named_in t ns i named.1 (omega (arith, lt))

pub length-spread : (w : ℕ → Tree) (k c : ℕ) → length (spread w c k) ≡ k
length-spread w zero c = refl
length-spread w (suc k) c = omega (arith, length-spread w k (suc c))

-- terms behind one another
terms_in : (vs : List Value) (k a : ℕ) → a + k ≤ length vs → map tree (take k (drop a vs)) ≡ spread (λ i. tree (get_or vs i (Whole (var 0)))) a k
terms_in vs zero a room = refl
terms_in vs (suc k) a room =
    ap (λ us. map tree (take (suc k) us)) (drop-cons vs a (Whole (var 0)) (omega (arith, room)))
    ∙ ap (λ us. tree (get_or vs a (Whole (var 0))) ∷ us) (terms_in vs k (suc a) (omega (arith, room)))

pub row-spread : (t : Table) (nodes : List Node) (a k : ℕ) → a + k ≤ length nodes → row t nodes a k ≡ spread (tree_at t nodes) a k
unfolding row
row-spread t nodes a k room = terms_in (values t nodes) k a (omega (arith, room, length-values t nodes))

-- more names
pub tree-names : (s t : Table) (nodes : List Node) → Extends s t → IsLaid s nodes → (i : ℕ) → tree_at t nodes i ≡ tree_at s nodes i
tree-names s t nodes more laid i = ap (λ vs. tree (get_or vs i (Whole (var 0)))) (values-names s t more laid.table nodes laid.sound.named)

module _ (t : Table) (nodes : List Node) (sound : IsSound t nodes) where
  value-at : (i : ℕ) (d : Value) → i < length nodes → get_or (values t nodes) i d ≡ value t (values t nodes) (node_at nodes i)
  unfolding values
  value-at i d lt =
      let none : List Value = [] in
      let e : i ≡ length none + i = omega arith in
      ap (λ j. get_or (values t nodes) j d) e ∙ value_in t [] nodes i d sound.rest lt

  pub named-at : (i : ℕ) → i < length nodes → IsNamed t (node_at nodes i)
  named-at i lt = named_in t nodes i sound.named lt

  pub tree-at : (i : ℕ) (n : Node) → i < length nodes → node_at nodes i ≡ n → tree_at t nodes i ≡ tree (value t (values t nodes) n)
  tree-at i n lt e = ap tree (value-at i (Whole (var 0)) lt) ∙ ap (λ m. tree (value t (values t nodes) m)) e

  block_in : (root f k : ℕ) → root + k < length nodes → node_at nodes root ≡ Fun f k → block (drop root (values t nodes)) ≡ compound (functor_name t f) (trees (spread (tree_at t nodes) (suc root) k))
  block_in root f k within head =
      let len = length-values t nodes in
      let first : get_or (values t nodes) root (Whole (var 0)) ≡ Head (functor_name t f) k = value-at root (Whole (var 0)) (omega (arith, within)) ∙ ap (value t (values t nodes)) head in
      ap block (drop-cons (values t nodes) root (Whole (var 0)) (omega (arith, within, len)))
      ∙ ap (λ v. block (v ∷ drop (suc root) (values t nodes))) first
      ∙ ap (λ us. compound (functor_name t f) (trees us)) (terms_in (values t nodes) k (suc root) (omega (arith, within, len)))

  pub compound-at : ArePacked nodes → (i from root : ℕ) → i < length nodes → node_at nodes i ≡ Sub from root → IsCompoundAt t nodes root (tree_at t nodes i)
  compound-at packed i from root lt e =
      let p = packed i from root lt e in
      let b = last_block from root from p.1 in
      let named = subst (IsNamed t) b.2.head (named-at root (omega (arith, b.2.within))) in
      record {
        functor = b.0;
        arity = b.1;
        head = b.2.head;
        known = named.0;
        arity_is = named.1;
        within = b.2.within;
        whole = λ j above le. weaker from root j above (node_at nodes j) (b.2.arguments j above le);
        is = tree-at i (Sub from root) lt e ∙ block_in root b.0 b.1 b.2.within b.2.head;
      }
    where
      last_block : (from root place : ℕ) → Packed nodes from root place → (f : ℕ) × (k : ℕ) × IsBlockAt nodes from root f k
      last_block from root place (last f k b) = (f, k, b)
      last_block from root place (next q f k b more) = last_block from root (suc (q + k)) more

      weaker : (from place j : ℕ) → place < j → (n : Node) → IsArgument from place n → IsArgument 0 j n
      weaker from place j above (Var s) h = tt
      weaker from place j above (Int i) h = tt
      weaker from place j above (Atom a) h = tt
      weaker from place j above (Fun f k) h = h
      weaker from place j above (Sub first root) h = (omega arith, omega (arith, h.1, above))
