-- The nodes of compiled clauses, and the terms that they stand for.
use Rattle.std.specs.Prelude.{◌≡◌, ℕ, ◌<◌, ◌≤◌, List, [], ◌∷◌, ◌++◌, length, map, take, drop, fold}
use Rattle.plterm.specs.Tree.{Tree, var, int, atom, compound, trees}
use Rattle.platoms.specs.Names.{Table, atom_at, functor_name, functor_arity}
use Rattle.plcode.specs.declared.node.Node.{Node}
use Rattle.plcode.specs.declared.node.Node.TheVariants.{Var, Int, Atom, Fun, Sub}

-- what a node stands for: a term, or the head of a block: a name, and how many arguments stand behind
pub data Value : Type 0 where
  Whole : Tree → Value
  Head : List ℕ → ℕ → Value

abbrev pub tree : Value → Tree
tree (Whole t) = t
tree (Head s k) = atom s

-- the compound whose block begins the values
abbrev pub block : List Value → Tree
block [] = var 0
block (Whole t ∷ vs) = t
block (Head s k ∷ vs) = compound s (trees (map tree (take k vs)))

-- a node over what the nodes before it stand for
abbrev pub value : Table → List Value → Node → Value
value t vs (Var s) = Whole (var s)
value t vs (Int i) = Whole (int i)
value t vs (Atom a) = Whole (atom (atom_at t a))
value t vs (Fun f k) = Head (functor_name t f) k
value t vs (Sub from root) = Whole (block (drop root vs))

abbrev pub with_node : Table → List Value → Node → List Value
with_node t vs n = vs ++ value t vs n ∷ []

-- what each node stands for, from the left
unfoldable pub values : Table → List Node → List Value
values t nodes = fold (with_node t) [] nodes

-- the terms that a row of k nodes stands for
unfoldable pub row : Table → List Node → ℕ → ℕ → List Tree
unfolding values
row t nodes at k = map tree (take k (drop at (values t nodes)))

-- a block, its arguments and perhaps more
abbrev pub IsBlock : List Value → Type 0
IsBlock [] = ⊥
IsBlock (Whole t ∷ vs) = ⊥
IsBlock (Head s k ∷ vs) = k ≤ length vs

-- what a node rests on is there
abbrev pub Rests : List Value → Node → Type 0
Rests vs (Var s) = Unit {0}
Rests vs (Int i) = Unit {0}
Rests vs (Atom a) = Unit {0}
Rests vs (Fun f k) = Unit {0}
Rests vs (Sub from root) = IsBlock (drop root vs)

-- the numbers of names are the table's
abbrev pub IsNamed : Table → Node → Type 0
IsNamed t (Var s) = Unit {0}
IsNamed t (Int i) = Unit {0}
IsNamed t (Atom a) = a < length t.atoms
IsNamed t (Fun f k) = (f < length t.functors) × (functor_arity t f ≡ k)
IsNamed t (Sub from root) = Unit {0}

abbrev pub AllNamed : Table → List Node → Type 0
AllNamed t [] = Unit {0}
AllNamed t (n ∷ ns) = IsNamed t n × AllNamed t ns

-- each node, and those behind it, stand behind what they rest on
abbrev pub AllRest : Table → List Value → List Node → Type 0
AllRest t vs [] = Unit {0}
AllRest t vs (n ∷ ns) = Rests vs n × AllRest t (with_node t vs n) ns

-- nodes whose names and blocks are there
pub record IsSound (t : Table) (nodes : List Node) : Type 0 where
  pub named : AllNamed t nodes
  pub rest : AllRest t [] nodes
