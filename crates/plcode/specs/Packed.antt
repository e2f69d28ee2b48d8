-- The blocks of a compound, which stand one behind the other.
use Rattle.std.specs.Prelude.{◌≡◌, ℕ, suc, ◌+◌, ◌<◌, ◌≤◌, List, length, get_or}
use Rattle.plcode.specs.declared.node.Node.{Node}
use Rattle.plcode.specs.declared.node.Node.TheVariants.{Var, Int, Atom, Fun, Sub}

abbrev pub node_at : List Node → ℕ → Node
node_at nodes i = get_or nodes i (Var 0)

-- an argument of the block at a place: no head of a block, and a compound whose own block stands from a place `from` on, below the block
abbrev pub IsArgument : ℕ → ℕ → Node → Type 0
IsArgument from place (Var s) = Unit {0}
IsArgument from place (Int i) = Unit {0}
IsArgument from place (Atom a) = Unit {0}
IsArgument from place (Fun f k) = ⊥
IsArgument from place (Sub first root) = (from ≤ root) × (root < place)

-- the block at a place, with all its arguments
pub record IsBlockAt (nodes : List Node) (from place f k : ℕ) : Type 0 where
  pub head : node_at nodes place ≡ Fun f k
  pub within : place + k < length nodes
  pub arguments : (j : ℕ) → place < j → j ≤ place + k → IsArgument from place (node_at nodes j)

-- from a place on blocks stand one behind the other, the last one at root, and what they rest on begins at `from` or behind it
pub data Packed (nodes : List Node) (from root : ℕ) : ℕ → Type 0 where
  last : (f k : ℕ) → IsBlockAt nodes from root f k → Packed nodes from root root
  next : (place f k : ℕ) → IsBlockAt nodes from place f k → Packed nodes from root (suc (place + k)) → Packed nodes from root place

-- the blocks of each compound are packed, and stand before it
abbrev pub ArePacked : List Node → Type 0
ArePacked nodes = (i from root : ℕ) → i < length nodes → node_at nodes i ≡ Sub from root → (root < i) × Packed nodes from root from
