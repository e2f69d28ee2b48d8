-- What the words of a command line ask for.
use Rattle.std.specs.Prelude.{ℕ, List, Option, Some, None}
use Rattle.plterm.specs.Tree.{Tree}
use Rattle.plload.specs.Goals.{IsGoal}
use Rattle.plwords.specs.declared.form.Form.{Form}
use Rattle.plwords.specs.declared.form.Form.TheVariants.{Run, Check, List as ListForm}
use Rattle.plwords.specs.Commands.{IsRead}

-- a text, if there is one, is this goal of main
abbrev pub GoalIs : Option (List ℕ) → Option Tree → Type 0
GoalIs None None = Unit {0}
GoalIs None (Some goal) = ⊥
GoalIs (Some text) None = ⊥
GoalIs (Some text) (Some goal) = IsGoal text goal

-- what a form whose goal is a text asks for
pub data Means : Form (List ℕ) → Form Tree → Type 0 where
  runs : {steps : ℕ} {text : Option (List ℕ)} {goal : Option Tree} → GoalIs text goal → Means (Run steps text) (Run steps goal)
  checks : Means Check Check
  lists : Means ListForm ListForm

-- `clap` reads the words as a form that asks for this, and as this path
abbrev pub Asks : List (List ℕ) → Form Tree → List ℕ → Type 0
Asks words form path = (texts : Form (List ℕ)) × IsRead words texts path × Means texts form

-- they are so for some form and path
abbrev pub IsCommand : List (List ℕ) → Type 0
IsCommand words = (form : Form Tree) × (path : List ℕ) × Asks words form path

-- they are of this form
abbrev pub IsOf : Form Tree → List (List ℕ) → Type 0
IsOf form words = (path : List ℕ) × Asks words form path
