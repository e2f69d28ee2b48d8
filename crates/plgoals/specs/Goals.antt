-- The goal that a term on the machine's heap stands for.
use Rattle.std.specs.Prelude.{◌≡◌, ℕ, suc, ◌+◌, ◌^◌, ◌<◌, ◌≤◌, List, [], ◌∷◌, ◌++◌, length, codes, Some, None, true}
use Rattle.plterm.specs.declared.node.Node.{Node}
use Rattle.plterm.specs.Tree.{Tree, compound, none, more, trees}
use Rattle.plterm.specs.Variables.{AllBelow}
use Rattle.plterm.specs.Reading.{tree_of, IsTerm, IsName}
use Rattle.plclause.specs.Conversion.{converted, is_control}
use Rattle.plsubst.specs.Subst.{bind}
use Rattle.plcells.specs.declared.cell.Cell.{Cell}
use Rattle.plcells.specs.declared.cell.Cell.TheVariants.{Str}
use Rattle.plcells.specs.Store.{Store, at, term, terms, value, IsHead, IsValue, AreValues}
use Rattle.plcells.specs.Putting.{standing}
use Rattle.plgoals.specs.declared.goal.Kind.{Kind}
use Rattle.plgoals.specs.declared.goal.Kind.TheVariants.{Number, Variable, Construct, Goal}

-- a value stands for the goal of another's term
pub record IsGoal (old new : Store) (v goal : Cell) : Type 0 where
  pub is : converted (value old v) ≡ Some (value new goal)
  pub fits : IsValue new goal

-- the block of a control construct
pub record IsConstruct (h : Store) (p : ℕ) : Type 0 where
  pub name : List ℕ
  pub is : term h p ≡ compound name (trees (terms h (suc p) 2))
  pub control : is_control name 2 ≡ true
  pub named : IsName name
  pub fits : IsValue h (Str p)
  pub within : p + 2 < length h.cells
  pub plain : (d : ℕ) → p < d → d ≤ p + 2 → IsHead (at h.cells d) → ⊥
  pub few : length h.cells < 2 ^ 32

-- its two goals, the first one on top of a stack
pub record Opens (h : Store) (p : ℕ) (before after : List Cell) : Type 0 where
  pub first : Cell
  pub second : Cell
  pub stack : after ≡ before ++ second ∷ first ∷ []
  pub first_fits : IsValue h first
  pub second_fits : IsValue h second
  pub first_is : value h first ≡ term h (suc p)
  pub second_is : value h second ≡ term h (suc (suc p))

-- what a term is as a goal
unfoldable pub IsKind : Store → Tree → Kind → Type 0
IsKind h t Number = converted t ≡ None
IsKind h t (Variable w) = IsValue h w × (converted t ≡ Some (compound (codes "call") (more (value h w) none)))
IsKind h t (Construct p) = (t ≡ term h p) × IsConstruct h p
IsKind h t (Goal w) = IsValue h w × (value h w ≡ t) × (converted t ≡ Some t)

-- nodes spell the goal of a value's term, where each variable is one of these values
pub record Spells (h : Store) (v : Cell) (ns : List Node) (vs : List Cell) : Type 0 where
  pub is : converted (value h v) ≡ Some (bind (standing h vs) (tree_of ns))
  pub term : IsTerm ns
  pub below : AllBelow (length vs) (tree_of ns)
  pub values : AreValues h vs
