-- Bytes that no term's begin.
use Rattle.std.specs.Prelude.{◌≡◌, ℕ, ◌≤◌, List, ◌∷◌, ◌++◌, length, take, drop}
use Rattle.std.specs.List.{flat_map}
use Rattle.plterm.specs.declared.node.Node.{Node}
use Rattle.plterm.specs.Tree.{Tree}
use Rattle.plterm.specs.Reading.{spelling, AllFit}
use Rattle.plterm.specs.Variables.{copied}
use Rattle.plpack.specs.Packing.{item, packed}

-- in some term, its variables 0, 1, .. by first occurrence, the node stands behind these, which are its first
pub record Follows (nodes : List Node) (n : Node) : Type 0 where
  pub term : Tree
  pub rest : List Node
  pub fits : AllFit (spelling term)
  pub parts : spelling (copied 0 term) ≡ nodes ++ n ∷ rest

-- Before the place stand the first nodes of some term, and not all of them, and at the place none that may follow.
pub record IsFault (bytes : List ℕ) (place : ℕ) : Type 0 where
  pub nodes : List Node
  pub next : Node
  pub within : place ≤ length bytes
  pub front : take place bytes ≡ flat_map item nodes
  pub begun : Follows nodes next
  pub bad : (n : Node) (rest : List ℕ) → Follows nodes n → drop place bytes ≡ item n ++ rest → ⊥

-- no term's bytes begin the bytes
abbrev pub NonePacked : List ℕ → Type 0
NonePacked bytes = (t : Tree) (rest : List ℕ) → AllFit (spelling t) → bytes ≡ packed t ++ rest → ⊥
