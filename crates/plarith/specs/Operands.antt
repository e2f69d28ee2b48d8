-- What an operand is seen to be.
use Rattle.std.specs.Prelude.{◌≡◌, ℕ, ◌+◌, ◌<◌, List, [], ◌∷◌, All}
use Rattle.plterm.specs.Tree.{Tree}
use Rattle.plcells.specs.Walking.{weight}
use Rattle.plarith.specs.declared.operand.Operand.{Operand}
use Rattle.plarith.specs.declared.operand.Opened.{Opened}
use Rattle.plarith.specs.declared.operand.Opened.TheVariants.{Known, One, Two}
use Rattle.plarith.specs.Errors.{Evaluated}
use Rattle.plarith.specs.Evaluation.{eval, with_one, with_two}

-- what it comes to, where w tells the terms of operands
abbrev pub outcome : (Operand → Tree) → Opened → Evaluated
outcome w (Known r) = r
outcome w (One f p) = with_one f (eval (w p))
outcome w (Two f p q) = with_two f (eval (w p)) (eval (w q))

-- the operands that it has
abbrev pub parts : Opened → List Operand
parts (Known r) = []
parts (One f p) = p ∷ []
parts (Two f p q) = p ∷ q ∷ []

-- how many nodes they have
abbrev pub weigh : (Operand → Tree) → List Operand → ℕ
weigh w [] = 0
weigh w (p ∷ ps) = weight (w p) + weigh w ps

-- what a term is seen to be, where P tells what is an operand
pub record Opens (w : Operand → Tree) (P : Operand → Type 0) (t : Tree) (o : Opened) : Type 0 where
  pub is : outcome w o ≡ eval t
  pub there : All P (parts o)
  pub lighter : weigh w (parts o) < weight t
