-- A goal of an arithmetic predicate that stands in a clause.
use Rattle.std.specs.Prelude.{◌≡◌, ℕ, ℤ, List, [], ◌∷◌, Ok, Some, FitsSigned}
use Rattle.std.specs.Int.{w32}
use Rattle.plterm.specs.Tree.{Tree, compound, trees}
use Rattle.plnames.specs.Names.{kind_of}
use Rattle.plnames.specs.declared.kind.Arithmetic.{Arithmetic}
use Rattle.plnames.specs.declared.kind.Arithmetic.TheVariants.{Is, Compare}
use Rattle.plnames.specs.declared.kind.BuiltIn.TheVariants as predicates
use Rattle.plnames.specs.declared.kind.Kind.TheVariants as kinds
use Rattle.plarith.specs.Evaluation.{eval}
use Rattle.plsearch.specs.Forms.{form, BuiltIn}
use Rattle.plexpression.specs.Nodes.{IsOffHeap}
use Rattle.pllinks.specs.declared.item.ClauseGoals.{ClauseGoals}
use Rattle.plstack.specs.Arguments.{IsArgument}
use Rattle.plstack.specs.State.{State}
use Rattle.plmachine.specs.declared.arithmetic.Calculation.{Calculation}
use Rattle.plmachine.specs.declared.select.Source.TheVariants.{Node}
use Rattle.plmachine.specs.Selected.{bound_at, StandsFor}

-- a term is a compound of two arguments, with the functor of an arithmetic predicate
pub record IsArithmetic (t : Tree) : Type 0 where
  pub predicate : Arithmetic
  pub name : List ℕ
  pub left : Tree
  pub right : Tree
  pub is : t ≡ compound name (trees (left ∷ right ∷ []))
  pub kind : kind_of name 2 ≡ Some (kinds.BuiltIn (predicates.Arithmetic predicate))

-- t is the goal of a predicate of arithmetic, of the terms of two nodes
pub record IsCalculation (s : State) (k : Calculation) (t : Tree) : Type 0 where
  pub left : Tree
  pub right : Tree
  pub left_there : IsArgument s k.run k.left left
  pub right_there : IsArgument s k.run k.right right
  pub stands : StandsFor s (Node k.run k.node) t
  pub pair : (name : List ℕ) × (stands.0 ≡ compound name (trees (left ∷ right ∷ [])))
  pub is : form t ≡ BuiltIn (predicates.Arithmetic k.predicate) (bound_at s k.run left ∷ bound_at s k.run right ∷ [])

-- an expression of a clause has a value
abbrev pub HasValue : State → ClauseGoals → Tree → Type 0
HasValue s r t = (i : ℤ) × (eval (bound_at s r t) ≡ Ok i)

-- of at most 32 bits
abbrev pub HasSmallValue : State → ClauseGoals → Tree → Type 0
HasSmallValue s r t = (i : ℤ) × (eval (bound_at s r t) ≡ Ok i) × FitsSigned w32 i

-- A predicate of these two terms of a clause needs no cell: its expressions have values, and that of is/2 has at most 32 bits and is for no
-- variable of the heap.
abbrev pub NeedsNoCell : State → ClauseGoals → Arithmetic → Tree → Tree → Type 0
NeedsNoCell s r Is t u = IsOffHeap s.env r.base t × HasSmallValue s r u
NeedsNoCell s r (Compare c) t u = HasValue s r t × HasValue s r u
