-- Copies among nodes that are held flat.
use Rattle.std.specs.Prelude.{◌≡◌, ℕ, ◌+◌, ◌≤◌, List, length, map, take, drop, reverse}
use Rattle.std.specs.List.{All}
use Rattle.std.specs.List.Sorted.{IsNonDecreasingBy}
use Rattle.plterm.specs.declared.node.Node.{Node}
use Rattle.plterm.specs.Tree.{Tree}
use Rattle.plterm.specs.Reading.{tree_of, IsTerm}
use Rattle.plterm.specs.Variables.{copied, variables}
use Rattle.plsearch.specs.Types.{Kept}
use Rattle.plcollect.specs.declared.collection.Held.{Held}

-- the nodes of a copy of a term, which has so many variables, in prefix order from the end
pub record IsCopyOf (nodes : List Node) (n : ℕ) (t : Tree) : Type 0 where
  pub term : IsTerm (reverse nodes)
  pub is : tree_of (reverse nodes) ≡ copied 0 t
  pub many : n ≡ length (variables t)

-- the nodes of a copy
abbrev pub nodes_of : List Node → Held → List Node
nodes_of nodes h = take h.count (drop h.from nodes)

abbrev pub end_of : Held → ℕ
end_of h = h.from + h.count

abbrev pub copy_of : List Node → Held → Tree
copy_of nodes h = tree_of (reverse (nodes_of nodes h))

abbrev pub copies_of : List Node → List Held → List Tree
copies_of nodes = map (copy_of nodes)

-- what is kept by nodes
abbrev pub kept_of : List Node → List Held → List Kept
kept_of nodes = map (λ h. record { level = h.level; copy = copy_of nodes h })

-- a copy stands there, its variables numbered from 0
pub record IsCopy (nodes : List Node) (h : Held) : Type 0 where
  pub within : end_of h ≤ length nodes
  pub term : IsTerm (reverse (nodes_of nodes h))
  pub numbered : copied 0 (copy_of nodes h) ≡ copy_of nodes h
  pub many : h.variables ≡ length (variables (copy_of nodes h))

-- copies, each behind the ones before it, and those for a handler behind those for the handlers outside of it
pub record AreCopies (nodes : List Node) (hs : List Held) : Type 0 where
  pub each : All (IsCopy nodes) hs
  pub ends : IsNonDecreasingBy end_of hs
  pub levels : IsNonDecreasingBy (λ (h : Held). h.level) hs
