-- The arguments of a head, each beside its value: the last of those that are left is unified, or waits on the list.
use Rattle.std.proofs.Common.{◌≡◌, ℕ, ◌+◌, ◌<◌, List, [], ◌∷◌, ◌++◌, length, take, get_or, refl, sym, subst, append-nil}
use Rattle.plcells.specs.declared.cell.Cell.{Cell}
use Rattle.plcells.specs.Store.{value}
use Rattle.plcells.proofs.Searching.{weight-some}
use Rattle.plcode.specs.declared.node.Node.{Node}
use Rattle.plcode.specs.Laying.{IsLaid}
use Rattle.plenv.specs.Env.{Env}
use Rattle.plenv.specs.Changes.{Keeps, Unifies}
use Rattle.plenv.specs.Rows.{tree_at}
use Rattle.plhead.specs.Equations.{left, pairs, right, IsEquation}
use Rattle.plhead.specs.Progress.{Onward, Reduces}
use Rattle.plhead.proofs.Heads.{one-taken}
use Rattle.plhead.proofs.Solving.{unified}
use Rattle.plhead.proofs.Steps.{onward, onward-swap, top}

module _ (old e : Env) (base : ℕ) (nodes : List Node) (laid : IsLaid old.heap.names nodes) (keeps : Keeps old e) (before work : List (ℕ × Cell)) (at : ℕ) (values : List Cell) (k i : ℕ) (v d : Cell)
    (up : k ≡ i + 1) (lt : i < length values) (read : v ≡ get_or values i d) (on : Onward old e base nodes (tree_at old.heap.names nodes) before (work ++ pairs at (take k values))) where
  abbrev others : List (ℕ × Cell)
  others = work ++ pairs at (take i values)

  -- it waits behind the list
  pub value-waits : Onward old e base nodes (tree_at old.heap.names nodes) before ((work ++ (at + i, v) ∷ []) ++ pairs at (take i values))
  value-waits = subst (Onward old e base nodes (tree_at old.heap.names nodes) before) (one-taken work at values k i v d up lt read) on

  last : Onward old e base nodes (tree_at old.heap.names nodes) before (others ++ (at + i, v) ∷ [])
  last = onward-swap old e base nodes (tree_at old.heap.names nodes) before work ((at + i, v) ∷ []) (pairs at (take i values)) value-waits

  pub value-top : IsEquation e base nodes (tree_at e.heap.names nodes) (at + i, v)
  value-top = top old e base nodes laid keeps before (others ++ (at + i, v) ∷ []) others (at + i, v) refl last

  -- its sides were unified
  pub value-unified : (new : Env) → Unifies e new (left e base (tree_at e.heap.names nodes) (at + i, v)) (value e.heap v) → Onward old new base nodes (tree_at old.heap.names nodes) before others
  value-unified new u =
      let w = tree_at e.heap.names nodes in
      let alone : Reduces e new base nodes w (at + i, v) others others = record {
        added = [];
        items = sym (append-nil others);
        equations = tt;
        progress = unified e new base w (left e base w (at + i, v)) (right e (at + i, v)) u;
        lighter = weight-some (w (at + i));
      } in
      onward old e base nodes laid keeps before (others ++ (at + i, v) ∷ []) others (at + i, v) refl last new others alone
