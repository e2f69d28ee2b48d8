-- What a reading answers.
use Rattle.std.specs.Prelude.{◌≡◌, ℕ, List, Option, Some, None}
use Rattle.plterm.specs.Tree.{Tree}
use Rattle.plops.specs.declared.table.OpTable.{OpTable}
use Rattle.plread.specs.Signs.{Sign}
use Rattle.plread.specs.Reading.{Spells}

-- the signs spell this tree and no other
pub record IsSpelled (ops : OpTable) (levels : ℕ) (signs : List Sign) (t : Tree) : Type 0 where
  pub spelled : Spells ops levels signs t
  pub only : (u : Tree) → Spells ops levels signs u → u ≡ t

abbrev pub Answers : OpTable → ℕ → List Sign → Option Tree → Type 0
Answers ops levels signs (Some t) = IsSpelled ops levels signs t
Answers ops levels signs None = (t : Tree) → Spells ops levels signs t → ⊥
