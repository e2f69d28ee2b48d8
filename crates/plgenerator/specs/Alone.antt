-- Nodes that spell a term alone.
use Rattle.std.specs.Prelude.{[], ◌∷◌}
use Rattle.plterm.specs.Tree.{Tree}
use Rattle.plterm.specs.declared.node.Node.{Node}
use Rattle.plterm.specs.declared.node.Node.TheVariants.{Var, Int, Atom, Compound}
use Rattle.plterm.specs.Reading.{tree_of, Fits}

-- a node that is no compound's
abbrev pub IsAlone : Node → Type 0
IsAlone (Var n) = Fits (Var n)
IsAlone (Int i) = Fits (Int i)
IsAlone (Atom s) = Fits (Atom s)
IsAlone (Compound s k) = ⊥

-- the term that it spells
abbrev pub alone : Node → Tree
alone n = tree_of (n ∷ [])
