-- What is written, read again.
use Rattle.std.specs.Prelude.{◌<◌, ◌^◌, ℕ, List, length}
use Rattle.plterm.specs.Tree.{Tree}
use Rattle.plterm.specs.Reading.{spelling, AllFit}
use Rattle.plterm.specs.Variables.{variables}
use Rattle.plops.specs.declared.table.OpTable.{OpTable}
use Rattle.pllex.specs.declared.token.Token.{Token}
use Rattle.pllex.specs.Tokens.{IsClause}
use Rattle.plops.specs.declared.flag.Quotes.{Quotes}
use Rattle.plread.specs.Spelling.{signs_of}
use Rattle.plread.specs.Reading.{Spells}

-- each name, integer and compound of the term is within its limits, and its variables are fewer than 2^64
pub record IsWithinLimits (t : Tree) : Type 0 where
  pub fits : AllFit (spelling t)
  pub few : length (variables t) < 2 ^ 64

-- the text is a clause from one place to another, where the flag double_quotes has this value and so many levels may
-- be open, and spells the term
pub record ReadsAs (ops : OpTable) (quotes : Quotes) (levels : ℕ) (text : List ℕ) (from after : ℕ) (t : Tree) : Type 0 where
  pub tokens : List Token
  pub clause : IsClause text from tokens after
  pub spelled : Spells ops levels (signs_of quotes text tokens) t
