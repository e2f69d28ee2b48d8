-- Equations that are left to solve: a node's term against a value.
use Rattle.std.specs.Prelude.{◌≡◌, ℕ, suc, ◌+◌, ◌<◌, List, [], ◌∷◌, ◌++◌, length, map}
use Rattle.plterm.specs.Tree.{Tree}
use Rattle.plsubst.specs.Subst.{bind}
use Rattle.plcells.specs.declared.cell.Cell.{Cell}
use Rattle.plcells.specs.Store.{Store, terms, value, AreValues, IsValue}
use Rattle.plcells.specs.Walking.{weight}
use Rattle.plcode.specs.declared.node.Node.{Node}
use Rattle.plcode.specs.Packed.{node_at, IsArgument}
use Rattle.plenv.specs.Env.{Env, Covers, over}

-- what nodes stand for, each by its place
abbrev pub Terms : Type 0
Terms = ℕ → Tree

-- an equation's sides: a node, whose variables stand for what the slots from a place on hold, and a value
abbrev pub left : Env → ℕ → Terms → ℕ × Cell → Tree
left e base w p = bind (over e base) (w p.0)

abbrev pub right : Env → ℕ × Cell → Tree
right e p = value e.heap p.1

abbrev pub Solves : (ℕ → Tree) → Env → ℕ → Terms → List (ℕ × Cell) → Type 0
Solves τ e base w [] = Unit {0}
Solves τ e base w (p ∷ ps) = (bind τ (left e base w p) ≡ bind τ (right e p)) × Solves τ e base w ps

-- a node that is an argument, slots for its variables, and a value
pub record IsEquation (e : Env) (base : ℕ) (nodes : List Node) (w : Terms) (p : ℕ × Cell) : Type 0 where
  pub within : p.0 < length nodes
  pub whole : IsArgument 0 p.0 (node_at nodes p.0)
  pub covers : Covers e base (w p.0)
  pub fits : IsValue e.heap p.1

abbrev pub AreEquations : Env → ℕ → List Node → Terms → List (ℕ × Cell) → Type 0
AreEquations e base nodes w [] = Unit {0}
AreEquations e base nodes w (p ∷ ps) = IsEquation e base nodes w p × AreEquations e base nodes w ps

-- how many nodes the terms of the left sides have
abbrev pub weigh : Terms → List (ℕ × Cell) → ℕ
weigh w [] = 0
weigh w (p ∷ ps) = weight (w p.0) + weigh w ps

-- nodes from a place on beside values, the first one last
abbrev pub pairs : ℕ → List Cell → List (ℕ × Cell)
pairs at [] = []
pairs at (v ∷ vs) = pairs (suc at) vs ++ (at, v) ∷ []

-- nodes from a place on stand on the list beside the terms of k cells from one on, the first one last
pub record Pushes (h : Store) (old new : List (ℕ × Cell)) (at c k : ℕ) : Type 0 where
  pub values : List Cell
  pub items : new ≡ old ++ pairs at values
  pub fit : AreValues h values
  pub are : map (value h) values ≡ terms h c k
