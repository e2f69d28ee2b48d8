-- Steps, and the goals that they are for.
use Rattle.std.specs.Prelude.{◌≡◌, ℕ, zero, suc, ◌<◌, ◌-◌, Bool, true, false, if◌then◌else◌, List, [], ◌∷◌, ◌++◌, length, take, fold, get_or, codes}
use Rattle.plterm.specs.Tree.{Tree, atom, compound, none, more}
use Rattle.plterm.specs.Reading.{first}
use Rattle.platoms.specs.Names.{Table, Extends}
use Rattle.plsearch.specs.Forms.{Both, Either, IfThenElse, form}
use Rattle.plcode.specs.declared.node.Node.{Node}
use Rattle.plcode.specs.declared.op.Op.{Op}
use Rattle.plcode.specs.declared.op.Op.TheVariants as ops
use Rattle.plcode.specs.declared.op.Step.{Step}
use Rattle.plcode.specs.declared.draft.Draft.{Draft}
use Rattle.plcode.specs.declared.code.Code.{Code}
use Rattle.plcode.specs.Nodes.{row}
use Rattle.plcode.specs.Laying.{Grows, IsRow}

-- names, nodes and steps
pub record Text : Type 0 where
  pub names : Table
  pub nodes : List Node
  pub steps : List Step

abbrev pub text : Draft → Text
text c = record { names = c.names; nodes = c.nodes.items; steps = c.steps.items }

-- code with the names of a table
abbrev pub text_of : Table → Code → Text
text_of t c = record { names = t; nodes = c.nodes.items; steps = c.steps.items }

-- the same nodes and steps with the names of another table
abbrev pub renamed : Table → Text → Text
renamed t c = record { names = t; nodes = c.nodes; steps = c.steps }

-- more names, nodes and steps, behind those that stand
pub record Extended (a b : Text) : Type 0 where
  pub names : Extends a.names b.names
  pub nodes : Grows a.nodes b.nodes
  pub more : List Step
  pub steps : b.steps ≡ a.steps ++ more

-- the terms stand in a row at a place
abbrev pub Args : Text → ℕ → List Tree → Type 0
Args c at ts = IsRow c.names c.nodes at (length ts) ts

-- ---- the goals of a place

-- two trees under a name
abbrev pub of_two : List ℕ → Tree → Tree → Tree
of_two s a b = compound s (more a (more b none))

-- the end of a sequence
abbrev pub ends : Op → Bool
ends ops.Proceed = true
ends op = false

-- the first two goals as one conjunction
abbrev pub paired : List Tree → List Tree
paired [] = []
paired (a ∷ []) = a ∷ []
paired (a ∷ b ∷ rest) = of_two (codes ",") a b ∷ rest

-- goals of which the first are so many conjunctions, one in the other
abbrev pub joined : ℕ → List Tree → List Tree
joined zero gs = gs
joined (suc n) gs = paired (joined n gs)

-- the goal of a branch, by what the lower places are for
abbrev pub branch : List (List Tree) → ℕ → Tree
branch below l = first (get_or below l [])

-- the goal of a step, by what the lower places are for: a control construct of its branches, or the term at its node
abbrev pub goal : Table → List Node → List (List Tree) → Op → ℕ → Tree
goal t nodes below (ops.Or l r) at = of_two (codes ";") (branch below l) (branch below r)
goal t nodes below (ops.IfThen i a) at = of_two (codes "->") (branch below i) (branch below a)
goal t nodes below (ops.IfThenElse i a b) at = of_two (codes ";") (of_two (codes "->") (branch below i) (branch below a)) (branch below b)
goal t nodes below op at = first (row t nodes at 1)

-- the goals of the place behind
abbrev pub behind : List (List Tree) → List Tree
behind below = get_or below (length below - 1) []

-- the goals of a step, of which so many conjunctions are selected
abbrev pub meaning : Table → List Node → List (List Tree) → Step → ℕ → List Tree
meaning t nodes below s owed = if ends s.op then [] else joined (s.conjunctions - owed) (goal t nodes below s.op s.goal ∷ behind below)

abbrev pub with_meaning : Table → List Node → List (List Tree) → Step → List (List Tree)
with_meaning t nodes below s = below ++ meaning t nodes below s 0 ∷ []

-- what each place is for, from the lowest
unfoldable pub meanings : Table → List Node → List Step → List (List Tree)
meanings t nodes steps = fold (with_meaning t nodes) [] steps

abbrev pub step_at : Text → ℕ → Step
step_at c place = get_or c.steps place (record { op = ops.Proceed; conjunctions = 0; goal = 0 })

-- the goals from a place on, with so many conjunctions of its step selected
unfoldable pub goals_from : Text → ℕ → ℕ → List Tree
goals_from c place owed = meaning c.names c.nodes (meanings c.names c.nodes (take place c.steps)) (step_at c place) owed

-- ---- what is known at a place

-- a sequence for one goal begins at a place, below another
pub record IsBranch (c : Text) (below place : ℕ) (g : Tree) : Type 0 where
  pub within : place < below
  pub goals : goals_from c place 0 ≡ g ∷ []

-- the place of fail/0
abbrev pub FAIL : ℕ
FAIL = 1

-- the goal of a step at a place by its op: a control construct by its branches, any other by its node
pub record IsEither (c : Text) (place l r : ℕ) (g : Tree) : Type 0 where
  pub left : Tree
  pub right : Tree
  pub is : g ≡ of_two (codes ";") left right
  pub form_is : form g ≡ Either left right
  pub left_begins : IsBranch c place l left
  pub right_begins : IsBranch c place r right

pub record IsIfThen (c : Text) (place i l : ℕ) (g : Tree) : Type 0 where
  pub condition : Tree
  pub success : Tree
  pub is : g ≡ of_two (codes "->") condition success
  pub form_is : form g ≡ IfThenElse condition success (atom (codes "fail"))
  pub condition_begins : IsBranch c place i condition
  pub success_begins : IsBranch c place l success
  pub failure_begins : IsBranch c place FAIL (atom (codes "fail"))

pub record IsIfThenElse (c : Text) (place i l r : ℕ) (g : Tree) : Type 0 where
  pub condition : Tree
  pub success : Tree
  pub failure : Tree
  pub is : g ≡ of_two (codes ";") (of_two (codes "->") condition success) failure
  pub form_is : form g ≡ IfThenElse condition success failure
  pub condition_begins : IsBranch c place i condition
  pub success_begins : IsBranch c place l success
  pub failure_begins : IsBranch c place r failure

abbrev pub IsFor : Text → ℕ → Op → ℕ → Tree → Type 0
IsFor c place ops.Proceed at g = ⊥
IsFor c place (ops.Or l r) at g = IsEither c place l r g
IsFor c place (ops.IfThen i l) at g = IsIfThen c place i l g
IsFor c place (ops.IfThenElse i l r) at g = IsIfThenElse c place i l r g
IsFor c place ops.Goal at g = Args c at (g ∷ [])

-- the first goal is a conjunction, and what its selection leads to
pub record Selects (c : Text) (place owed : ℕ) : Type 0 where
  pub left : Tree
  pub right : Tree
  pub rest : List Tree
  pub goals : goals_from c place owed ≡ of_two (codes ",") left right ∷ rest
  pub form_is : form (of_two (codes ",") left right) ≡ Both left right
  pub next : goals_from c place (suc owed) ≡ left ∷ right ∷ rest

-- a step with a goal: behind its conjunctions come its own goal, and what the place behind is for
pub record Runs (c : Text) (place : ℕ) (s : Step) : Type 0 where
  pub some : 0 < place
  pub selects : (owed : ℕ) → owed < s.conjunctions → Selects c place owed
  pub goal : Tree
  pub goals : goals_from c place s.conjunctions ≡ goal ∷ goals_from c (place - 1) 0
  pub is : IsFor c place s.op s.goal goal

-- what a step at a place says of the goals from there on
pub record Meets (c : Text) (place : ℕ) (s : Step) : Type 0 where
  pub none : ends s.op ≡ true → goals_from c place 0 ≡ []
  pub runs : ends s.op ≡ false → Runs c place s
