-- The trees that nodes make where each compound stands behind its arguments.
use Rattle.std.specs.Prelude.{ℕ, zero, suc, ◌<◌, ◌≤◌, List, [], ◌∷◌, length, drop, fold}
use Rattle.plterm.specs.declared.node.Node.{Node}
use Rattle.plterm.specs.declared.node.Node.TheVariants.{Var, Int, Atom, Compound}
use Rattle.plterm.specs.Tree.{Tree, var, int, atom, compound, Trees, none, more}

-- the topmost n trees, the topmost one last, before those of behind
abbrev pub gather : ℕ → List Tree → Trees → Trees
gather zero trees behind = behind
gather (suc n) [] behind = behind
gather (suc n) (t ∷ trees) behind = gather n trees (more t behind)

-- what a node makes of the trees so far, the latest of which is the first
abbrev pub with_node : Node → List Tree → List Tree
with_node (Var v) trees = var v ∷ trees
with_node (Int i) trees = int i ∷ trees
with_node (Atom s) trees = atom s ∷ trees
with_node (Compound s k) trees = compound s (gather k trees none) ∷ drop k trees

-- the trees that the nodes make, the latest first
abbrev pub trees_of : List Node → List Tree
trees_of nodes = fold (λ trees n. with_node n trees) [] nodes

-- a name has at most 65,535 bytes, and a compound 1 to 1,024 arguments
abbrev pub IsWithinLimits : Node → Type 0
IsWithinLimits (Var v) = Unit {0}
IsWithinLimits (Int i) = Unit {0}
IsWithinLimits (Atom s) = length s ≤ 65535
IsWithinLimits (Compound s k) = (length s ≤ 65535) × (0 < k) × (k ≤ 1024)

-- how many bytes the name of a node has
abbrev pub name_length : Node → ℕ
name_length (Var v) = 0
name_length (Int i) = 0
name_length (Atom s) = length s
name_length (Compound s k) = length s
