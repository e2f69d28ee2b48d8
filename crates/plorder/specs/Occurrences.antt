-- The variables found so far, and what is left to be looked at.
use Rattle.std.specs.Prelude.{◌≡◌, ℕ, ◌+◌, ◌<◌, List, [], ◌∷◌, ◌++◌, map}
use Rattle.plterm.specs.Tree.{Tree, var, trees}
use Rattle.plterm.specs.Reading.{spellings}
use Rattle.plterm.specs.Variables.{seen_after}
use Rattle.plcells.specs.Store.{Store, value, terms, AreValues}
use Rattle.plcells.specs.Walking.{weight}
use Rattle.plorder.specs.declared.variables.Span.{Span}
use Rattle.plorder.specs.declared.occurrences.Found.{Found}
use Rattle.plorder.specs.Spans.{AreSpans, weigh_spans}

-- no variable is among them
abbrev pub HasNone : Found → Type 0
HasNone found = (found.numbers ≡ []) × (found.cells.items ≡ [])

-- the cells are values of the variables
pub record IsFound (h : Store) (found : Found) : Type 0 where
  pub values : AreValues h found.cells.items
  pub is : map (value h) found.cells.items ≡ map var found.numbers

-- the terms that are left, those of the last span first
abbrev pub left_terms : Store → List Span → List Tree
left_terms h [] = []
left_terms h (s ∷ ss) = left_terms h ss ++ terms h s.first s.count

-- the variables by first occurrence, where these were seen before the terms
abbrev pub all_seen : List ℕ → List Tree → List ℕ
all_seen seen ts = seen_after seen (spellings (trees ts))

-- a term was looked at: what it has of variables was seen, or is left on the list
pub record Visits (h : Store) (old new : List Span) (seen after : List ℕ) (t : Tree) : Type 0 where
  pub spans : AreSpans h old → AreSpans h new
  pub is : all_seen after (left_terms h new) ≡ all_seen seen (t ∷ left_terms h old)
  pub lighter : weigh_spans h new < weigh_spans h old + weight t
