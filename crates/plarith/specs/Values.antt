-- The values of a heap as operands.
use Rattle.plterm.specs.Tree.{Tree, var}
use Rattle.plcells.specs.Store.{Store, IsValue, value}
use Rattle.plarith.specs.declared.operand.Operand.{Operand}
use Rattle.plarith.specs.declared.operand.Operand.TheVariants.{Value, Node}

abbrev pub IsOperand : Store → Operand → Type 0
IsOperand h (Value v) = IsValue h v
IsOperand h (Node n) = ⊥

abbrev pub tree : Store → Operand → Tree
tree h (Value v) = value h v
tree h (Node n) = var 0
