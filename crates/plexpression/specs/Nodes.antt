-- The nodes of a compiled clause as operands.
use Rattle.std.specs.Prelude.{◌≡◌, ℕ, ◌+◌, ◌<◌, List, [], ◌∷◌, length, Option, Some, None, ◌⊎◌}
use Rattle.plterm.specs.Tree.{Tree, var, compound, trees}
use Rattle.platoms.specs.declared.evaluable.Operation.{Operation}
use Rattle.platoms.specs.declared.evaluable.Operation.TheVariants as ops
use Rattle.platoms.specs.Evaluable.{operation_of}
use Rattle.platoms.specs.Names.{functor_arity, functor_name}
use Rattle.plsubst.specs.Subst.{bind}
use Rattle.plcells.specs.Store.{IsValue, value}
use Rattle.plcode.specs.declared.node.Node.{Node}
use Rattle.plcode.specs.Laying.{IsLaid}
use Rattle.plcode.specs.Packed.{node_at, IsArgument}
use Rattle.plenv.specs.declared.slot.Slot.TheVariants.{Free}
use Rattle.plenv.specs.Env.{Env, over, slot_at, Covers}
use Rattle.plenv.specs.Rows.{tree_at}
use Rattle.plarith.specs.declared.operand.Operand.{Operand}
use Rattle.plarith.specs.declared.operand.Operand.TheVariants as operands
use Rattle.plarith.specs.declared.operand.Opened.{Opened}
use Rattle.plarith.specs.declared.operand.Opened.TheVariants.{Known, One, Two}
use Rattle.plarith.specs.Evaluation.{not_evaluable}
use Rattle.plexpression.specs.declared.pair.Pair.{Pair}

-- a node that stands for a term alone, whose variables have slots from a place on
pub record IsNode (e : Env) (nodes : List Node) (base at : ℕ) : Type 0 where
  pub laid : IsLaid e.heap.names nodes
  pub within : at < length nodes
  pub whole : IsArgument 0 at (node_at nodes at)
  pub covers : Covers e base (tree_at e.heap.names nodes at)

abbrev pub IsOperand : Env → List Node → ℕ → Operand → Type 0
IsOperand e nodes base (operands.Value v) = IsValue e.heap v
IsOperand e nodes base (operands.Node at) = IsNode e nodes base at

abbrev pub tree : Env → List Node → ℕ → Operand → Tree
tree e nodes base (operands.Value v) = value e.heap v
tree e nodes base (operands.Node at) = bind (over e base) (tree_at e.heap.names nodes at)

-- what the compound is seen to be whose block, of a functor with such a name and so many arguments, stands at a place
abbrev pub seen_by : Option Operation → List ℕ → ℕ → ℕ → Opened
seen_by (Some (ops.One f)) name k root = One f (operands.Node (root + 1))
seen_by (Some (ops.Two f)) name k root = Two f (operands.Node (root + 1)) (operands.Node (root + 2))
seen_by None name k root = Known (not_evaluable name k)

abbrev pub seen_block : List ℕ → ℕ → ℕ → Opened
seen_block name k root = seen_by (operation_of name k) name k root

-- a compound of two arguments, each a node that stands for a term alone
pub record IsPair (e : Env) (nodes : List Node) (base at : ℕ) (p : Pair) : Type 0 where
  pub left : IsNode e nodes base p.left
  pub right : IsNode e nodes base p.right
  pub known : p.functor < length e.heap.names.functors
  pub arity : functor_arity e.heap.names p.functor ≡ 2
  pub is : tree_at e.heap.names nodes at ≡ compound (functor_name e.heap.names p.functor) (trees (tree_at e.heap.names nodes p.left ∷ tree_at e.heap.names nodes p.right ∷ []))

-- a term of a clause, whose slots begin at a place, is a variable with a free slot
pub record IsFree (e : Env) (base : ℕ) (t : Tree) : Type 0 where
  pub place : ℕ
  pub number : ℕ
  pub is : t ≡ var place
  pub free : slot_at e.slots (base + place) ≡ Free number

-- it stands for no variable of the heap: it is one with a free slot, or stands for none
abbrev pub IsOffHeap : Env → ℕ → Tree → Type 0
IsOffHeap e base t = IsFree e base t ⊎ ((n : ℕ) → bind (over e base) t ≡ var n → ⊥)
