-- How many levels are open at once where the clauses of a text are read that were written.
use Rattle.std.specs.Prelude.{◌≡◌, ◌<◌, ℕ, max, List, length, ◌++◌}
use Rattle.plterm.specs.Tree.{Tree}
use Rattle.plops.specs.declared.table.OpTable.{OpTable}
use Rattle.plwrite.specs.declared.style.Style.TheVariants.{Listed}
use Rattle.plwrite.specs.declared.place.Position.TheVariants.{At}
use Rattle.plwrite.specs.Places.{whole}
use Rattle.plwrite.specs.Writing.{clause_text}
use Rattle.pllaws.specs.Levels.{levels_of}
use Rattle.plprogram.specs.declared.settings.Settings.{Settings}
use Rattle.plload.specs.declared.error.RefusalKind.TheVariants as kinds
use Rattle.plload.specs.Position.{line_of, column_of}
use Rattle.plload.specs.Loading.{levels, Outcome, Refuses, Comes, Loads}
use Rattle.plload.specs.Listing.{Lists}

-- those of a clause, under the operators by which it was read, where they are more
abbrev pub with_levels : ℕ → Settings → Tree → ℕ
with_levels most s t = max most (levels_of s.operators Listed (At whole) t)

abbrev pub most_levels : Settings → ℕ → ℕ
most_levels s most = most

-- the most levels that a clause or a directive of a text needs
abbrev pub Needs : List ℕ → Outcome ℕ → Type 0
Needs text outcome = Comes with_levels 0 most_levels text outcome

-- as syntax, at a place
abbrev pub refusal : {B : Type 0} → List ℕ → ℕ → Outcome B
refusal lines place = Refuses (line_of lines place) (column_of lines place) kinds.Syntax

-- a listing is refused at a clause that needs more levels than may be open
pub record IsTooDeep (lines : List ℕ) : Type 0 where
  pub front : List ℕ
  pub operators : OpTable
  pub term : Tree
  pub rest : List ℕ
  pub are : lines ≡ front ++ (clause_text operators term ++ rest)
  pub deep : levels < levels_of operators Listed (At whole) term
  pub loads : Loads lines (refusal lines (length front))
  pub lists : Lists lines (refusal lines (length front))
