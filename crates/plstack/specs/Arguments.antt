-- The terms of a clause's goals, which stand among the nodes of the code.
use Rattle.std.specs.Prelude.{◌≡◌, ℕ, ◌+◌, ◌≤◌, List, [], ◌∷◌, length}
use Rattle.plterm.specs.Tree.{Tree, compound, trees}
use Rattle.plterm.specs.Variables.{AllBelow}
use Rattle.plsubst.specs.Subst.{bind}
use Rattle.plcode.specs.Steps.{Args}
use Rattle.plcode.specs.Callees.{IsProcedure}
use Rattle.plenv.specs.Env.{over}
use Rattle.plexpression.specs.declared.pair.Pair.{Pair}
use Rattle.pllinks.specs.declared.item.ClauseGoals.{ClauseGoals}
use Rattle.plstack.specs.State.{State}

-- the term of a node; its variables have slots among those of a run
pub record IsArgument (s : State) (r : ClauseGoals) (node : ℕ) (t : Tree) : Type 0 where
  pub stand : Args s.basis.code.text node (t ∷ [])
  pub width : ℕ
  pub below : AllBelow width t
  pub own : r.base + width ≤ r.«end»
  pub slots : r.«end» ≤ length s.env.slots

-- the terms of nodes stay, with what is put for their variables
abbrev pub KeepsArguments : State → State → Type 0
KeepsArguments old new = (r : ClauseGoals) (node : ℕ) (t : Tree) → IsArgument old r node t → IsArgument new r node t × (bind (over new.env r.base) t ≡ bind (over old.env r.base) t)

-- a term is the compound of the terms of two nodes, with the functor of a number
pub record IsPair (s : State) (r : ClauseGoals) (t : Tree) (p : Pair) : Type 0 where
  pub name : List ℕ
  pub left : Tree
  pub right : Tree
  pub left_there : IsArgument s r p.left left
  pub right_there : IsArgument s r p.right right
  pub procedure : IsProcedure s.env.heap.names p.functor (record { name = name; arity = 2 })
  pub is : t ≡ compound name (trees (left ∷ right ∷ []))
