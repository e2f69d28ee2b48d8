-- Compiling a body: its goals in prefix order, and then their steps from the last to the first.
use Rattle.std.specs.Prelude.{◌≡◌, ℕ, ◌+◌, ◌<◌, ◌≤◌, false, List, [], ◌∷◌, length, take, drop, Option, Some, None, codes}
use Rattle.plterm.specs.Tree.{Tree, atom}
use Rattle.plsearch.specs.Forms.{Either, either}
use Rattle.plcode.specs.declared.op.Op.{Op}
use Rattle.plcode.specs.declared.op.Step.{Step}
use Rattle.plcode.specs.declared.body.Piece.{Piece}
use Rattle.plcode.specs.declared.body.Piece.TheVariants.{And, Or, IfThen, Single}
use Rattle.plcode.specs.declared.body.Part.{Part}
use Rattle.plcode.specs.declared.body.Arrow.{Arrow}
use Rattle.plcode.specs.Laying.{IsLaid}
use Rattle.plcode.specs.Steps.{Text, Args, of_two, ends, joined, step_at, FAIL, IsBranch, IsFor, Meets}

-- a sequence for one goal begins at a place
abbrev pub Begins : Text → ℕ → Tree → Type 0
Begins c place g = IsBranch c (length c.steps) place g

-- the nodes are laid, the sequence of fail/0 stands first, and each step says what its place is for
pub record IsCode (c : Text) : Type 0 where
  pub laid : IsLaid c.names c.nodes
  pub fails : Begins c FAIL (atom (codes "fail"))
  pub steps : (place : ℕ) → place < length c.steps → Meets c place (step_at c place)

-- ---- goals in prefix order

-- a goal that is no `->`: as the first argument of `;` it is a branch
abbrev pub IsNoArrow : Tree → Type 0
IsNoArrow g = (b : Tree) → either g b ≡ Either g b

-- a goal that holds two goals, which come next
pub record Holds (name : List ℕ) (g : Tree) (rest new : List Tree) : Type 0 where
  pub first : Tree
  pub second : Tree
  pub is : g ≡ of_two name first second
  pub next : new ≡ first ∷ second ∷ rest

-- a goal with a step of its own, by its node
pub record HasStep (c : Text) (at : ℕ) (g : Tree) (rest new : List Tree) : Type 0 where
  pub no_arrow : IsNoArrow g
  pub node : Args c at (g ∷ [])
  pub next : new ≡ rest

-- what a piece says of the goal g before others, and what is left to say of
abbrev pub Means : Text → Piece → Tree → List Tree → List Tree → Type 0
Means c And g rest new = Holds (codes ",") g rest new
Means c Or g rest new = Holds (codes ";") g rest new
Means c IfThen g rest new = Holds (codes "->") g rest new
Means c (Single at) g rest new = HasStep c at g rest new

pub record Splits (c : Text) (p : Piece) (old new : List Tree) : Type 0 where
  pub goal : Tree
  pub rest : List Tree
  pub before : old ≡ goal ∷ rest
  pub means : Means c p goal rest new

-- pieces, each for the first goal of what is left, lead from some goals to others
abbrev pub Leads : Text → List Piece → List Tree → List Tree → Type 0
Leads c [] gs ks = gs ≡ ks
Leads c (p ∷ ps) gs ks = (hs : List Tree) × Splits c p gs hs × Leads c ps hs ks

-- ---- steps that wait, the first on top

-- steps with more conjunctions before the first
abbrev pub charged : ℕ → List Step → List Step
charged n [] = []
charged n (s ∷ ss) = record { op = s.op; conjunctions = s.conjunctions + n; goal = s.goal } ∷ ss

-- a step alone
abbrev pub step : Op → ℕ → List Step
step op at = record { op = op; conjunctions = 0; goal = at } ∷ []

-- a step is for a goal, before others
pub record IsStepFor (c : Text) (s : Step) (mid goals : List Tree) : Type 0 where
  pub goal : Tree
  pub lives : ends s.op ≡ false
  pub is : IsFor c (length c.steps) s.op s.goal goal
  pub room : s.conjunctions ≤ length mid
  pub goals_are : goals ≡ joined s.conjunctions (goal ∷ mid)

-- steps are for goals, before the rest of which they come to stand
abbrev pub AreFor : Text → List Step → List Tree → List Tree → Type 0
AreFor c [] rest goals = goals ≡ rest
AreFor c (s ∷ ss) rest goals = (mid : List Tree) × IsStepFor c s mid goals × AreFor c ss rest mid

-- steps for a goal, whatever they come to stand before
abbrev pub Segment : Text → Tree → List Step → Type 0
Segment c g steps = (rest : List Tree) → AreFor c steps rest (g ∷ rest)

-- the step of an `->` without an else, and what the other branch will make of it
pub record Awaits (c : Text) (g : Tree) (arrow : Arrow) (len : ℕ) : Type 0 where
  pub one : len ≡ 1
  pub first : Tree
  pub second : Tree
  pub is : g ≡ of_two (codes "->") first second
  pub condition_begins : Begins c arrow.condition first
  pub then_begins : Begins c arrow.then second

-- whether the part is an `->` to which `;` may give an else
abbrev pub Known : Text → Tree → Option Arrow → ℕ → Type 0
Known c g (Some arrow) len = Awaits c g arrow len
Known c g None len = IsNoArrow g

-- the parts of the steps made, the first part on top, are for goals
abbrev pub Made : Text → List Part → List Step → List Tree → Type 0
Made c [] steps [] = Unit {0}
Made c [] steps (g ∷ gs) = ⊥
Made c (p ∷ ps) steps [] = ⊥
Made c (p ∷ ps) steps (g ∷ gs) =
    (0 < p.len) × (p.len ≤ length steps) × Known c g p.arrow p.len × Segment c g (take p.len steps) × Made c ps (drop p.len steps) gs

-- there are two parts at least, and steps for both
abbrev pub HasTwo : List Part → ℕ → Type 0
HasTwo [] n = ⊥
HasTwo (p ∷ []) n = ⊥
HasTwo (p ∷ q ∷ ps) n = (0 < p.len) × (p.len + q.len ≤ n)

-- the parts are for two goals at least
pub record AreForTwo (c : Text) (ps : List Part) (steps : List Step) : Type 0 where
  pub first : Tree
  pub second : Tree
  pub rest : List Tree
  pub made : Made c ps steps (first ∷ second ∷ rest)

-- the parts are for the goals that a piece leads to
pub record IsNext (c : Text) (p : Piece) (ps : List Part) (steps : List Step) : Type 0 where
  pub goals : List Tree
  pub after : List Tree
  pub splits : Splits c p goals after
  pub made : Made c ps steps after

-- two sequences begin for the goals of two parts, which are taken off
pub record Branches (a b : Tree) (gs : List Tree) (d : Text) (left right : ℕ) (parts : List Part) (made : List Step) : Type 0 where
  pub left_begins : Begins d left a
  pub right_begins : Begins d right b
  pub rest : Made d parts made gs

-- the two topmost parts as one
abbrev pub merged : List Part → List Part
merged [] = []
merged (p ∷ []) = p ∷ []
merged (p ∷ q ∷ ps) = record { len = p.len + q.len; arrow = None } ∷ ps

-- the `->` that is the topmost part
abbrev pub arrow_of : List Part → Option Arrow
arrow_of [] = None
arrow_of (p ∷ ps) = p.arrow

-- a control construct finds the parts of its goals
abbrev pub Ready : Piece → List Part → ℕ → Type 0
Ready And ps n = HasTwo ps n
Ready Or ps n = HasTwo ps n
Ready IfThen ps n = HasTwo ps n
Ready (Single at) ps n = Unit {0}
