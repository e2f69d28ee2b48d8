-- Pairs of terms over values and new variables.
use Rattle.std.specs.Prelude.{ℕ, ◌+◌, ◌-◌, List, length, nat_lt, if◌then◌else◌}
use Rattle.plterm.specs.Tree.{Tree, var}
use Rattle.plterm.specs.Variables.{AllBelow}
use Rattle.plsubst.specs.Subst.{bind}
use Rattle.plcells.specs.declared.cell.Cell.{Cell}
use Rattle.plcells.specs.declared.equation.Equation.{Equation}
use Rattle.plcells.specs.Store.{Store, at, value, AreValues}

-- what their variables stand for, where n variables are in use
abbrev pub filled : Store → List Cell → ℕ → ℕ → Tree
filled h vs n x = if nat_lt x (length vs) then value h (at vs x) else var (n + (x - length vs))

abbrev pub left_of : Store → ℕ → Equation → Tree
left_of h n e = bind (filled h e.values.items n) e.left

abbrev pub right_of : Store → ℕ → Equation → Tree
right_of h n e = bind (filled h e.values.items n) e.right

-- the values are there, and there is one or a new variable for each variable
pub record IsEquation (h : Store) (e : Equation) : Type 0 where
  pub values : AreValues h e.values.items
  pub left : AllBelow (length e.values.items + e.new) e.left
  pub right : AllBelow (length e.values.items + e.new) e.right
