-- A goal of main that is given beside the text of a program.
use Rattle.std.specs.Prelude.{◌≡◌, ℕ, List, ◌++◌, length, codes, Option, Some, None}
use Rattle.plterm.specs.Tree.{Tree}
use Rattle.pllex.specs.declared.token.Token.{Token}
use Rattle.plprogram.specs.declared.settings.Settings.{Settings}
use Rattle.plprogram.specs.Settings.{iso_settings}
use Rattle.plload.specs.Meaning.{Runs, goal_meaning}
use Rattle.plload.specs.Loading.{Reads}

-- the whole text is one clause, which spells this term
abbrev pub IsWhole : List ℕ → Settings → Tree → Type 0
IsWhole text s t = (ts : List Token) × Reads text 0 s ts (length text) (Some t)

abbrev pub Whole : List ℕ → Settings → Option Tree → Type 0
Whole text s (Some t) = IsWhole text s t
Whole text s None = (t : Tree) → IsWhole text s t → ⊥

-- what a term is as a goal of main, if it is callable and convertible
abbrev pub Runnable : Tree → Option Tree → Type 0
Runnable t (Some goal) = goal_meaning t ≡ Runs goal
Runnable t None = (goal : Tree) → goal_meaning t ≡ Runs goal → ⊥

abbrev pub ended : List ℕ → List ℕ
ended text = text ++ codes " ."

-- The text with ` .` behind it spells a term under the standard operators and flags, and that is this goal of main.
abbrev pub IsGoal : List ℕ → Tree → Type 0
IsGoal text goal = (t : Tree) × IsWhole (ended text) iso_settings t × (goal_meaning t ≡ Runs goal)

-- the goal that a text is, if it is one
abbrev pub Goal : List ℕ → Option Tree → Type 0
Goal text (Some goal) = IsGoal text goal
Goal text None = (goal : Tree) → IsGoal text goal → ⊥

abbrev pub HasGoal : List ℕ → Type 0
HasGoal text = (goal : Tree) × IsGoal text goal
