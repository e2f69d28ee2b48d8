-- The answers that are left of a call, over the values of its arguments.
use Rattle.std.specs.Prelude.{◌≡◌, ℕ, pos, ◌+◌, ◌<◌, ◌≤◌, List, [], ◌∷◌, map, take, drop, length, Option, Some, None, IfSome}
use Rattle.std.specs.Str.{chars}
use Rattle.plterm.specs.Tree.{Tree, int, atom}
use Rattle.plterm.specs.Reading.{IsName}
use Rattle.plcells.specs.declared.cell.Cell.{Cell}
use Rattle.plcells.specs.declared.equation.Equation.{Equation}
use Rattle.plcells.specs.Store.{Store, value, AreValues}
use Rattle.plcells.specs.Equations.{IsEquation, left_of, right_of}
use Rattle.plbuiltin.specs.Solution.{Solution, against, are}
use Rattle.plbuiltin.specs.Pieces.{text_of, as_text}
use Rattle.plgenerator.specs.declared.turn.Part.{Part}
use Rattle.plgenerator.specs.declared.turn.Split.{Split}
use Rattle.plgenerator.specs.declared.turn.Groups.{Groups}
use Rattle.plgenerator.specs.declared.turn.Remaining.{Remaining}
use Rattle.plgenerator.specs.declared.turn.Remaining.TheVariants as turns
use Rattle.plgenerator.specs.declared.generator.Found.{Found}
use Rattle.plgenerator.specs.declared.generator.Piece.{Piece}
use Rattle.plgenerator.specs.declared.generator.Sides.{Sides}
use Rattle.plgenerator.specs.declared.generator.Sides.TheVariants as sides
use Rattle.plgenerator.specs.declared.wanted.Sought.{Sought}
use Rattle.plgenerator.specs.Fitting.{fitting}
use Rattle.plgenerator.specs.Turns.{IsPart, IsSplit, parts_left, splits_left}

abbrev pub solution_of : Store → ℕ → Equation → Solution
solution_of h n e = record { left = left_of h n e; right = right_of h n e; new = e.new }

-- the terms of the arguments behind the atom
abbrev pub sought_terms : Store → Sought → List Tree
sought_terms h s = value h s.before ∷ value h s.length ∷ value h s.after ∷ value h s.text ∷ []

-- the numbers of characters before a part, in it and behind it, and the atom of its text
abbrev pub piece_terms : Piece → List Tree
piece_terms p = int (pos p.part.offset.characters) ∷ int (pos p.part.length) ∷ int (pos p.part.after) ∷ atom p.text ∷ []

-- the solution that two sides are
abbrev pub told_by : Store → ℕ → Sides → Solution
told_by h n (sides.Terms e) = solution_of h n e
told_by h n (sides.Part s p) = are (sought_terms h s) (piece_terms p)

-- their values are there, and a part's text is a name
abbrev pub AreSides : Store → Sides → Type 0
AreSides h (sides.Terms e) = IsEquation h e
AreSides h (sides.Part s p) = AreValues h (s.before ∷ s.length ∷ s.after ∷ s.text ∷ []) × IsName p.text

abbrev pub parts_in : Option (List ℕ) → List Tree → Part → List Solution
parts_in None us p = []
parts_in (Some name) us p = parts_left (chars name) us p

abbrev pub splits_in : Option (List ℕ) → List Tree → Split → List Solution
splits_in None us s = []
splits_in (Some name) us s = splits_left (chars name) us s

-- those of sub_atom/5
abbrev pub parts_for : List Tree → Part → List Solution
parts_for (a ∷ b ∷ l ∷ r ∷ s ∷ []) p = parts_in (text_of a) (b ∷ l ∷ r ∷ s ∷ []) p
parts_for us p = []

-- those of atom_concat/3, where its first two arguments are not both known
abbrev pub splits_for : List Tree → Split → List Solution
splits_for (a ∷ b ∷ c ∷ []) s = splits_in (text_of c) (as_text a ∷ as_text b ∷ []) s
splits_for us s = []

-- those of a predicate whose arguments are unified with one group of terms after another: the first terms are the arguments, and those behind
-- them the groups
abbrev pub groups_for : List Tree → Groups → List Solution
groups_for us g = map (against (take g.arguments us)) (drop (g.arguments + g.passed) us)

-- of a call over these terms
abbrev pub left_of_terms : List Tree → Remaining → List Solution
left_of_terms us (turns.Part p) = parts_for us p
left_of_terms us (turns.Split s) = splits_for us s
left_of_terms us (turns.Groups g) = groups_for us g

abbrev pub left : Store → List Cell → Remaining → List Solution
left h vs turn = left_of_terms (map (value h) vs) turn

abbrev pub left_if : Store → List Cell → Option Remaining → List Solution
left_if h vs None = []
left_if h vs (Some turn) = left h vs turn

-- a turn of these arguments
abbrev pub IsPartFor : List Tree → Part → Type 0
IsPartFor (a ∷ b ∷ l ∷ r ∷ s ∷ []) p = (name : List ℕ) × (a ≡ atom name) × IsPart (chars name) p
IsPartFor us p = ⊥

abbrev pub IsSplitFor : List Tree → Split → Type 0
IsSplitFor (a ∷ b ∷ c ∷ []) s = (name : List ℕ) × (text_of c ≡ Some name) × IsSplit (chars name) s
IsSplitFor us s = ⊥

abbrev pub AreGroups : List Tree → Groups → Type 0
AreGroups us g = (0 < g.arguments) × (g.arguments ≤ 1023) × (g.arguments + g.passed ≤ length us)

abbrev pub IsRemainingOf : List Tree → Remaining → Type 0
IsRemainingOf us (turns.Part p) = IsPartFor us p
IsRemainingOf us (turns.Split s) = IsSplitFor us s
IsRemainingOf us (turns.Groups g) = AreGroups us g

abbrev pub IsRemaining : Store → List Cell → Remaining → Type 0
IsRemaining h vs turn = IsRemainingOf (map (value h) vs) turn

-- an answer, behind some that have no unifier, and before those that are left
pub record Finds (h : Store) (vs : List Cell) (turn : Remaining) (f : Found) : Type 0 where
  pub sides : AreSides h f.sides
  pub rest : IfSome f.rest (IsRemaining h vs)
  pub fewer : IfSome f.rest (λ rest. length (left h vs rest) < length (left h vs turn))
  pub is : (n : ℕ) → fitting (left h vs turn) ≡ fitting (told_by h n f.sides ∷ left_if h vs f.rest)
