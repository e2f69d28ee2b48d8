-- How far the solution of equations has come.
use Rattle.std.specs.Prelude.{◌≡◌, ℕ, ◌<◌, List, ◌++◌, Bool}
use Rattle.plterm.specs.Tree.{Tree}
use Rattle.plsubst.specs.Subst.{bind}
use Rattle.plsubst.specs.Unify.{BindsYounger}
use Rattle.plcells.specs.declared.cell.Cell.{Cell}
use Rattle.plcells.specs.Walking.{weight}
use Rattle.plcode.specs.declared.node.Node.{Node}
use Rattle.plenv.specs.Env.{Env}
use Rattle.plenv.specs.Changes.{Substitutes}
use Rattle.plhead.specs.Equations.{Terms, Solves, left, right, weigh, AreEquations}
use Rattle.plhead.specs.Fitting.{Answers}

-- how far the unification of s and t has come: what has been put for variables, and the equations that are left
pub record Progress (old new : Env) (base : ℕ) (w : Terms) (s t : Tree) (work : List (ℕ × Cell)) : Type 0 where
  pub put_for : ℕ → Tree
  pub made : Substitutes old new put_for
  pub forced : (τ : ℕ → Tree) → bind τ s ≡ bind τ t → (y : ℕ) → bind τ (put_for y) ≡ τ y
  pub left : (τ : ℕ → Tree) → bind τ s ≡ bind τ t → Solves τ new base w work
  pub enough : (τ : ℕ → Tree) → Solves τ new base w work → bind τ (bind put_for s) ≡ bind τ (bind put_for t)
  pub younger : BindsYounger put_for

-- an equation gave way to those of its arguments, which were put behind the others on the list
pub record Reduces (old new : Env) (base : ℕ) (nodes : List Node) (w : Terms) (p : ℕ × Cell) (before after : List (ℕ × Cell)) : Type 0 where
  pub added : List (ℕ × Cell)
  pub items : after ≡ before ++ added
  pub equations : AreEquations new base nodes w added
  pub progress : Progress old new base w (left old base w p) (right old p) added
  pub lighter : weigh w added < weight (w p.0)

-- equations gave way to others: each unification that had come to those has come to these
pub record Onward (old new : Env) (base : ℕ) (nodes : List Node) (w : Terms) (before after : List (ℕ × Cell)) : Type 0 where
  pub equations : AreEquations new base nodes w after
  pub progress : (start : Env) (s t : Tree) → Progress start old base w s t before → Progress start new base w s t after

-- each unification that had come to these equations has this answer
abbrev pub Ends : Env → Env → ℕ → Terms → List (ℕ × Cell) → Bool → Type 0
Ends old new base w work fits = (start : Env) (s t : Tree) → Progress start old base w s t work → Answers start new s t fits
