-- Rows of terms that are put.
use Rattle.std.proofs.Common.{◌≡◌, ℕ, zero, suc, ◌+◌, ◌<◌, ◌≤◌, List, [], ◌∷◌, ◌++◌, length, length-take, length-drop, take, drop, map, get_or, refl, sym, ap, ap₂, ◌∙◌, subst, arith}
use Rattle.std.proofs.lemmas.List.{take_more, length-map}
use Rattle.plterm.specs.Tree.{Tree, var}
use Rattle.plterm.specs.Variables.{AllBelow}
use Rattle.plsubst.specs.Subst.{bind}
use Rattle.platoms.specs.Names.{Table}
use Rattle.plcells.specs.declared.cell.Cell.{Cell}
use Rattle.plcells.specs.Store.{Store, AreValues, IsValue, value}
use Rattle.plcode.specs.declared.node.Node.{Node}
use Rattle.plcode.specs.Nodes.{Value, Whole, tree, value as value_of, values, row}
use Rattle.plcode.specs.Laying.{IsLaid}
use Rattle.plcode.specs.Packed.{node_at}
use Rattle.plcode.proofs.Values.{length-values}
use Rattle.plenv.specs.declared.slot.Row.{Row}
use Rattle.plenv.specs.Env.{Env, over, Covers}
use Rattle.plenv.specs.Changes.{AreFor, Puts, Stays}
use Rattle.plenv.specs.Rows.{row_at, AllBelowEach, CoversAll, tree_at}
use Rattle.plenv.proofs.Nodes.{value-at}

-- the tree of a node by what the node is
pub tree-is : (t : Table) (nodes : List Node) (i : ℕ) (n : Node) → IsLaid t nodes → i < length nodes → node_at nodes i ≡ n → tree_at t nodes i ≡ tree (value_of t (values t nodes) n)
tree-is t nodes i n laid lt is = ap tree (value-at t nodes i laid.sound.rest lt ∙ ap (value_of t (values t nodes)) is)

-- ---- values for some terms
pub for-more : (h : Store) (vs : List Cell) (ts : List Tree) (v : Cell) (t : Tree) → AreFor h vs ts → IsValue h v → value h v ≡ t → AreFor h (vs ++ v ∷ []) (ts ++ t ∷ [])
for-more h [] [] v t are f e = (f, e, tt)
for-more h [] (u ∷ us) v t are f e = absurd are
for-more h (w ∷ ws) [] v t are f e = absurd are
for-more h (w ∷ ws) (u ∷ us) v t are f e = (are.0, are.1, for-more h ws us v t are.2 f e)

pub for-still : (old new : Store) (vs : List Cell) (ts : List Tree) → ((v : Cell) → IsValue old v → IsValue new v × (value new v ≡ value old v)) → AreFor old vs ts → AreFor new vs ts
for-still old new [] [] kept are = tt
for-still old new [] (t ∷ ts) kept are = absurd are
for-still old new (v ∷ vs) [] kept are = absurd are
for-still old new (v ∷ vs) (t ∷ ts) kept are = let k = kept v are.0 in (k.0, k.1 ∙ are.1, for-still old new vs ts kept are.2)

pub for-values : (h : Store) (vs : List Cell) (ts : List Tree) → AreFor h vs ts → AreValues h vs
for-values h [] [] a = tt
for-values h [] (t ∷ ts) a = absurd a
for-values h (v ∷ vs) [] a = absurd a
for-values h (v ∷ vs) (t ∷ ts) a = (a.0, for-values h vs ts a.2)

pub for-are : (h : Store) (vs : List Cell) (ts : List Tree) → AreFor h vs ts → map (value h) vs ≡ ts
for-are h [] [] a = refl
for-are h [] (t ∷ ts) a = absurd a
for-are h (v ∷ vs) [] a = absurd a
for-are h (v ∷ vs) (t ∷ ts) a = ap₂ (λ x xs. x ∷ xs) a.1 (for-are h vs ts a.2)

-- ---- a row's terms
get_drop : (k : ℕ) (vs : List Value) (j : ℕ) (d : Value) → get_or (drop k vs) j d ≡ get_or vs (k + j) d
get_drop zero vs j d = let e : j ≡ 0 + j = omega arith in ap (λ i. get_or vs i d) e
get_drop (suc k) [] j d = refl
get_drop (suc k) (v ∷ vs) j d = let e : suc (k + j) ≡ suc k + j = omega arith in get_drop k vs j d ∙ ap (λ i. get_or (v ∷ vs) i d) e

get_take : (k : ℕ) (vs : List Value) (j : ℕ) (d : Value) → j < k → get_or (take k vs) j d ≡ get_or vs j d
get_take zero vs j d lt = absurd (omega arith)
get_take (suc k) [] j d lt = refl
get_take (suc k) (v ∷ vs) zero d lt = refl
get_take (suc k) (v ∷ vs) (suc j) d lt = get_take k vs j d (omega arith)

get_tree : (vs : List Value) (j : ℕ) (d : Value) (e : Tree) → j < length vs → get_or (map tree vs) j e ≡ tree (get_or vs j d)
get_tree [] j d e lt = absurd (omega arith)
get_tree (v ∷ vs) zero d e lt = refl
get_tree (v ∷ vs) (suc j) d e lt = get_tree vs j d e (omega arith)

module _ (t : Table) (nodes : List Node) (r : Row) (within : r.at + r.count ≤ length nodes) where
  part_length : length (take r.count (drop r.at (values t nodes))) ≡ r.count
  part_length = omega (arith, length-take r.count (drop r.at (values t nodes)), length-drop r.at (values t nodes), length-values t nodes, within)

  pub row-length : length (row_at t nodes r) ≡ r.count
  unfolding row
  row-length = length-map (take r.count (drop r.at (values t nodes))) tree ∙ part_length

  pub row-tree : (j : ℕ) → j < r.count → get_or (row_at t nodes r) j (var 0) ≡ tree_at t nodes (r.at + j)
  unfolding row
  row-tree j lt =
      get_tree (take r.count (drop r.at (values t nodes))) j (Whole (var 0)) (var 0) (omega (arith, lt, part_length))
      ∙ ap tree (get_take r.count (drop r.at (values t nodes)) j (Whole (var 0)) lt ∙ get_drop r.at (values t nodes) j (Whole (var 0)))

below_each : (width : ℕ) (ts : List Tree) (j : ℕ) → AllBelowEach width ts → j < length ts → AllBelow width (get_or ts j (var 0))
below_each width [] j b lt = absurd (omega arith)
below_each width (t ∷ ts) zero b lt = b.0
below_each width (t ∷ ts) (suc j) b lt = below_each width ts j b.1 (omega arith)

-- each of a row's terms is over slots that are there
pub covers-one : (old mid : Env) (base : ℕ) (nodes : List Node) (r : Row) (j : ℕ) → r.at + r.count ≤ length nodes → CoversAll old base (row_at old.heap.names nodes r) → Stays old mid → mid.heap.names ≡ old.heap.names → j < r.count → Covers mid base (tree_at mid.heap.names nodes (r.at + j))
covers-one old mid base nodes r j within c stays names lt = record {
  width = c.width;
  below = subst (AllBelow c.width) (row-tree old.heap.names nodes r within j lt ∙ ap (λ t. tree_at t nodes (r.at + j)) (sym names)) (below_each c.width (row_at old.heap.names nodes r) j c.below (omega (arith, lt, row-length old.heap.names nodes r within)));
  within = omega (arith, c.within, stays.slots);
}

map-more : (f : Tree → Tree) (ts : List Tree) (j : ℕ) → j < length ts → map f (take (j + 1) ts) ≡ map f (take j ts) ++ f (get_or ts j (var 0)) ∷ []
map-more f ts j lt = ap (map f) (take_more ts j (var 0) lt) ∙ joined (take j ts) (get_or ts j (var 0))
  where
    joined : (us : List Tree) (u : Tree) → map f (us ++ u ∷ []) ≡ map f us ++ f u ∷ []
    joined [] u = refl
    joined (v ∷ us) u = ap (λ ws. f v ∷ ws) (joined us u)

-- one more term of a row
pub row-more : (old mid new : Env) (base : ℕ) (nodes : List Node) (r : Row) (j : ℕ) (vs : List Cell) (v : Cell) → r.at + r.count ≤ length nodes → j < r.count
    → AreFor mid.heap vs (map (bind (over old base)) (take j (row_at old.heap.names nodes r))) → Puts mid new v (bind (over old base) (tree_at old.heap.names nodes (r.at + j)))
    → AreFor new.heap (vs ++ v ∷ []) (map (bind (over old base)) (take (j + 1) (row_at old.heap.names nodes r)))
row-more old mid new base nodes r j vs v within lt are puts =
    let ts = row_at old.heap.names nodes r in
    let next = map-more (bind (over old base)) ts j (omega (arith, lt, row-length old.heap.names nodes r within)) ∙ ap (λ u. map (bind (over old base)) (take j ts) ++ bind (over old base) u ∷ []) (row-tree old.heap.names nodes r within j lt) in
    subst (AreFor new.heap (vs ++ v ∷ [])) (sym next)
    (for-more new.heap vs (map (bind (over old base)) (take j ts)) v (bind (over old base) (tree_at old.heap.names nodes (r.at + j))) (for-still mid.heap new.heap vs (map (bind (over old base)) (take j ts)) puts.extends.values are) puts.fits puts.is)
