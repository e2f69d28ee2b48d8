-- The term that bytes stand for.
use Rattle.std.specs.Prelude.{◌≡◌, ◌==◌, ℕ, zero, suc, if◌then◌else◌, List, [], ◌∷◌, length, take, drop}
use Rattle.std.specs.Int.{w16, w64, from_be_bytes, cast_signed}
use Rattle.plterm.specs.declared.node.Node.{Node}
use Rattle.plterm.specs.declared.node.Node.TheVariants.{Var, Int, Atom, Compound}
use Rattle.plterm.specs.Tree.{Tree}
use Rattle.plterm.specs.Reading.{tree_of}
use Rattle.plterm.specs.Variables.{copied}
use Rattle.plpack.specs.Packing.{item, packed, IsPackable}

-- the number of the first two bytes, and of the first eight
abbrev pub short_of : List ℕ → ℕ
short_of bytes = from_be_bytes w16 (take 2 bytes)

abbrev pub long_of : List ℕ → ℕ
long_of bytes = from_be_bytes w64 (take 8 bytes)

-- the name behind its length
abbrev pub name_of : List ℕ → List ℕ
name_of bytes = take (short_of bytes) (drop 2 bytes)

-- the node of the first item, by its tag
unfoldable pub node_of : List ℕ → Node
node_of [] = Var 0
node_of (tag ∷ bytes) =
    if tag == 0 then Var (long_of bytes)
    else (if tag == 1 then Int (cast_signed w64 (long_of bytes))
    else (if tag == 2 then Atom (name_of bytes)
    else Compound (name_of (drop 2 bytes)) (short_of bytes)))

-- the nodes of the items, of which there are at most so many
unfoldable pub nodes_of : ℕ → List ℕ → List Node
nodes_of zero bytes = []
nodes_of (suc k) [] = []
nodes_of (suc k) (tag ∷ bytes) = node_of (tag ∷ bytes) ∷ nodes_of k (drop (length (item (node_of (tag ∷ bytes)))) (tag ∷ bytes))

-- the term that the items spell
unfoldable pub term_of : List ℕ → Tree
term_of bytes = tree_of (nodes_of (length bytes) bytes)

-- the bytes are a term's
pub record ArePacked (bytes : List ℕ) (t : Tree) : Type 0 where
  pub limits : IsPackable t
  pub is : bytes ≡ packed t

-- what each packed term is: its variables are 0, 1, .. by first occurrence
pub record IsCanonical (t : Tree) : Type 0 where
  pub limits : IsPackable t
  pub same : copied 0 t ≡ t

-- the bytes are those of the term that they stand for
pub record IsHeld (bytes : List ℕ) : Type 0 where
  pub canonical : IsCanonical (term_of bytes)
  pub own : packed (term_of bytes) ≡ bytes
