-- What is found at the front of bytes.
use Rattle.std.specs.Prelude.{◌≡◌, ℕ, List, Option, Some, None}
use Rattle.plpack.specs.declared.item.NodeAt.{NodeAt}
use Rattle.plpack.specs.declared.item.Next.{Next}
use Rattle.plpack.specs.Items.{IsItemAt, NoItem, IsNumbered, NoNext, after}

-- the node that stands there, or that there is none
abbrev pub Finds : List ℕ → Option NodeAt → Type 0
Finds bytes None = NoItem bytes
Finds bytes (Some found) = IsItemAt bytes found.node found.behind.now

-- the node that stands there may follow others in which k variables were seen
pub record IsNextAt (bytes : List ℕ) (k : ℕ) (next : Next) : Type 0 where
  pub item : IsItemAt bytes next.node next.behind.now
  pub numbered : IsNumbered k next.node
  pub seen : next.seen ≡ after k next.node

-- such a node, or that none stands there
abbrev pub FindsNext : List ℕ → ℕ → Option Next → Type 0
FindsNext bytes k None = NoNext k bytes
FindsNext bytes k (Some next) = IsNextAt bytes k next
