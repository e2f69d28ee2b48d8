-- Laying terms down, a node at a time.
use Rattle.std.specs.Prelude.{◌≡◌, ℕ, suc, ◌≤◌, ◌<◌, ◌+◌, ◌^◌, List, [], ◌∷◌, ◌++◌, length, map, fold}
use Rattle.plterm.specs.Tree.{Tree}
use Rattle.platoms.specs.Names.{Table, IsTable}
use Rattle.plcode.specs.declared.node.Node.{Node}
use Rattle.plcode.specs.declared.node.Node.TheVariants.{Var, Int, Atom, Fun, Sub}
use Rattle.plcode.specs.Nodes.{Value, tree, value, values, row, AllNamed, IsSound, Rests}
use Rattle.plcode.specs.Packed.{node_at, IsArgument, Packed, ArePacked}

-- where the first block of the last compound begins, if a node follows others
abbrev pub lower : ℕ → Node → ℕ
lower low (Var s) = low
lower low (Int i) = low
lower low (Atom a) = low
lower low (Fun f k) = low
lower low (Sub from root) = from

-- where the first block of the last compound begins; none has one below `low`
abbrev pub lowest : ℕ → List Node → ℕ
lowest low nodes = fold lower low nodes

-- the terms that nodes stand for, each behind the same others
abbrev pub over : Table → List Value → List Node → List Tree
over t vs ns = map (λ n. tree (value t vs n)) ns

abbrev pub EachRests : List Value → List Node → Type 0
EachRests vs [] = Unit {0}
EachRests vs (n ∷ ns) = Rests vs n × EachRests vs ns

-- nodes whose names are a table's, each behind what it rests on, and the blocks of each compound packed; the place of each has 32 bits
pub record IsLaid (t : Table) (nodes : List Node) : Type 0 where
  pub table : IsTable t
  pub sound : IsSound t nodes
  pub packed : ArePacked nodes
  pub few : length nodes < 2 ^ 32

-- the blocks of a compound, packed up to a place
pub record EndsAt (nodes : List Node) (from root end : ℕ) : Type 0 where
  pub packed : Packed nodes from root from
  pub functor : ℕ
  pub arity : ℕ
  pub head : node_at nodes root ≡ Fun functor arity
  pub end_is : suc (root + arity) ≡ end

-- the blocks of compounds end at a place, those of each further one where those of the one before begin
abbrev pub IsChain : List Node → ℕ → List Node → Type 0
IsChain nodes end [] = Unit {0}
IsChain nodes end (Var s ∷ w) = IsChain nodes end w
IsChain nodes end (Int i ∷ w) = IsChain nodes end w
IsChain nodes end (Atom a ∷ w) = IsChain nodes end w
IsChain nodes end (Fun f k ∷ w) = ⊥
IsChain nodes end (Sub from root ∷ w) = EndsAt nodes from root end × IsChain nodes from w

-- the nodes of some terms wait, the first on top, behind those laid down
pub record Waits (t : Table) (nodes waiting : List Node) (ts : List Tree) : Type 0 where
  pub laid : IsLaid t nodes
  pub named : AllNamed t waiting
  pub rest : EachRests (values t nodes) waiting
  pub chain : IsChain nodes (length nodes) waiting
  pub terms : over t (values t nodes) waiting ≡ ts

-- nodes with more behind them
pub record Grows (old new : List Node) : Type 0 where
  pub added : List Node
  pub nodes : new ≡ old ++ added

-- a row of k terms, all of it there: no node of it is the head of a block, and the block of each compound stands before it
pub record IsRow (t : Table) (nodes : List Node) (at k : ℕ) (ts : List Tree) : Type 0 where
  pub within : at + k ≤ length nodes
  pub terms : row t nodes at k ≡ ts
  pub whole : (j : ℕ) → at ≤ j → j < at + k → IsArgument 0 j (node_at nodes j)
