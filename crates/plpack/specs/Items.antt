-- What stands at the front of bytes.
use Rattle.std.specs.Prelude.{◌≡◌, ◌==◌, ℕ, ◌+◌, ◌^◌, ◌<◌, ◌≤◌, if◌then◌else◌, List, ◌++◌}
use Rattle.std.specs.Int.{Width, byte_len, to_be_bytes}
use Rattle.plterm.specs.declared.node.Node.{Node}
use Rattle.plterm.specs.declared.node.Node.TheVariants.{Var, Int, Atom, Compound}
use Rattle.plterm.specs.Reading.{Fits, IsName}
use Rattle.plpack.specs.Packing.{item, name_item}

-- the bytes are a number's and those behind it
pub record IsNumberAt (w : Width) (bytes : List ℕ) (n : ℕ) (rest : List ℕ) : Type 0 where
  pub fits : n < 256 ^ byte_len w
  pub parts : bytes ≡ to_be_bytes w n ++ rest

-- the bytes are a name's and those behind it
pub record IsNameAt (bytes s rest : List ℕ) : Type 0 where
  pub name : IsName s
  pub parts : bytes ≡ name_item s ++ rest

-- no name's bytes begin the bytes
unfoldable pub NoName : List ℕ → Type 0
NoName bytes = (s rest : List ℕ) → IsNameAt bytes s rest → ⊥

-- a variable's number has eight bytes
abbrev pub IsLong : Node → Type 0
IsLong (Var v) = v < 2 ^ 64
IsLong (Int i) = Unit {0}
IsLong (Atom s) = Unit {0}
IsLong (Compound s k) = Unit {0}

-- the bytes are a node's and those behind it
pub record IsItemAt (bytes : List ℕ) (n : Node) (rest : List ℕ) : Type 0 where
  pub fits : Fits n
  pub long : IsLong n
  pub parts : bytes ≡ item n ++ rest

-- no node's bytes begin the bytes
unfoldable pub NoItem : List ℕ → Type 0
NoItem bytes = (n : Node) (rest : List ℕ) → IsItemAt bytes n rest → ⊥

-- a variable is one of the k that were seen, or the next
abbrev pub IsNumbered : ℕ → Node → Type 0
IsNumbered k (Var v) = v ≤ k
IsNumbered k (Int i) = Unit {0}
IsNumbered k (Atom s) = Unit {0}
IsNumbered k (Compound s n) = Unit {0}

-- how many variables were seen with the node
abbrev pub after : ℕ → Node → ℕ
after k (Var v) = if v == k then k + 1 else k
after k (Int i) = k
after k (Atom s) = k
after k (Compound s n) = k

-- no node's bytes begin the bytes that may follow others in which k variables were seen
abbrev pub NoNext : ℕ → List ℕ → Type 0
NoNext k bytes = (n : Node) (rest : List ℕ) → Fits n → IsNumbered k n → bytes ≡ item n ++ rest → ⊥
