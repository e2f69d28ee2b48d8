-- What an error of reading says.
use Rattle.std.specs.Prelude.{◌≡◌, ℕ, List, [], ◌∷◌}
use Rattle.plterm.specs.Tree.{Tree}
use Rattle.pllex.specs.declared.token.Token.{Token}
use Rattle.plops.specs.declared.table.OpTable.{OpTable}
use Rattle.plops.specs.declared.flag.Quotes.{Quotes}
use Rattle.plread.specs.declared.error.ReadError.{ReadError}
use Rattle.plread.specs.declared.error.ReadError.TheVariants as errors
use Rattle.plread.specs.Spelling.{signs_of}
use Rattle.plread.specs.Reading.{Spells}

-- where the first token starts
abbrev pub start_of : List Token → ℕ
start_of [] = 0
start_of (t ∷ ts) = t.start

-- the tokens spell no term, and the place is that of the first one
abbrev pub Refuses : OpTable → Quotes → ℕ → List ℕ → List Token → ReadError → Type 0
Refuses ops quotes levels text ts (errors.Syntax place) = (place ≡ start_of ts) × ((t : Tree) → Spells ops levels (signs_of quotes text ts) t → ⊥)
Refuses ops quotes levels text ts errors.NoMemory = Unit {0}
