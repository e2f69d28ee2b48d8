-- Small texts, read by the definitions.
use Rattle.std.proofs.Common.{◌≡◌, ℕ, zero, suc, ◌<◌, ◌≤◌, List, [], ◌∷◌, ◌++◌, pos, codes, refl, arith}
use Rattle.plterm.specs.Tree.{Tree, var, int, atom, compound, none, more}
use Rattle.platoms.specs.Names.{Table}
use Rattle.plcode.specs.declared.node.Node.{Node}
use Rattle.plcode.specs.declared.node.Node.TheVariants.{Var, Int, Atom, Fun, Sub}
use Rattle.plcode.specs.declared.op.Op.TheVariants as ops
use Rattle.plcode.specs.declared.op.Step.{Step}
use Rattle.plcode.specs.Nodes.{values, row}
use Rattle.plcode.specs.Packed.{node_at, IsArgument, IsBlockAt, Packed, last, next}
use Rattle.plcode.specs.Steps.{Text, of_two, meanings, goals_from, FAIL}
use Rattle.plcode.specs.Bodies.{charged, step}

table : Table
table = record { atoms = codes "f" ∷ codes "a" ∷ []; functors = record { name = 0; arity = 2 } ∷ [] }

abbrev nested_nodes : List Node
nested_nodes = Fun 0 2 ∷ Atom 1 ∷ Int (pos 7) ∷ Fun 0 2 ∷ Var 0 ∷ Sub 0 0 ∷ Sub 0 3 ∷ []

-- f(X, f(a, 7)) as a goal: the inner block comes first, and the node of the whole behind its block
nested : row table nested_nodes 6 1
    ≡ compound (codes "f") (more (var 0) (more (compound (codes "f") (more (atom (codes "a")) (more (int (pos 7)) none))) none)) ∷ []
unfolding row values table
nested = refl

-- its arguments are a row behind the head of its block
behind_head : row table nested_nodes 4 2 ≡ var 0 ∷ compound (codes "f") (more (atom (codes "a")) (more (int (pos 7)) none)) ∷ []
unfolding row values table
behind_head = refl

-- its blocks stand one behind the other, the inner one first
inner : IsBlockAt nested_nodes 0 0 0 2
inner = record { head = refl; within = omega arith; arguments = args }
  where
    args : (j : ℕ) → 0 < j → j ≤ 2 → IsArgument 0 0 (node_at nested_nodes j)
    args zero lt le = absurd (omega arith)
    args (suc zero) lt le = tt
    args (suc (suc zero)) lt le = tt
    args (suc (suc (suc j))) lt le = absurd (omega arith)

outer : IsBlockAt nested_nodes 0 3 0 2
outer = record { head = refl; within = omega arith; arguments = args }
  where
    args : (j : ℕ) → 3 < j → j ≤ 5 → IsArgument 0 3 (node_at nested_nodes j)
    args zero lt le = absurd (omega arith)
    args (suc zero) lt le = absurd (omega arith)
    args (suc (suc zero)) lt le = absurd (omega arith)
    args (suc (suc (suc zero))) lt le = absurd (omega arith)
    args (suc (suc (suc (suc zero)))) lt le = tt
    args (suc (suc (suc (suc (suc zero))))) lt le = (omega arith, omega arith)
    args (suc (suc (suc (suc (suc (suc j)))))) lt le = absurd (omega arith)

packed : Packed nested_nodes 0 3 0
packed = next 0 0 2 inner (last 0 2 outer)

-- a conjunction is counted on the first step
counted : charged 2 (step ops.Goal 5 ++ step ops.Goal 6) ≡ record { op = ops.Goal; conjunctions = 2; goal = 5 } ∷ record { op = ops.Goal; conjunctions = 0; goal = 6 } ∷ []
counted = refl

-- ---- a body: a, (b ; c), d

names : Table
names = record { atoms = codes "fail" ∷ codes "a" ∷ codes "b" ∷ codes "c" ∷ codes "d" ∷ []; functors = [] }

-- The sequence of fail/0; those of b and c, each behind its end; and the body's: its end, d, the disjunction with one conjunction, and a
-- with the other. The body begins at the last place.
steps : List Step
steps =
    step ops.Proceed 0 ++ step ops.Goal 0
    ++ (step ops.Proceed 0 ++ step ops.Goal 2)
    ++ (step ops.Proceed 0 ++ step ops.Goal 3)
    ++ (step ops.Proceed 0 ++ step ops.Goal 4 ++ record { op = ops.Or 3 5; conjunctions = 1; goal = 0 } ∷ record { op = ops.Goal; conjunctions = 1; goal = 1 } ∷ [])

body : Text
body = record { names = names; nodes = Atom 0 ∷ Atom 1 ∷ Atom 2 ∷ Atom 3 ∷ Atom 4 ∷ []; steps = steps }

abbrev a : Tree
a = atom (codes "a")

abbrev rest : Tree
rest = of_two (codes ",") (of_two (codes ";") (atom (codes "b")) (atom (codes "c"))) (atom (codes "d"))

-- at its beginning the body is one goal
begins : goals_from body 9 0 ≡ of_two (codes ",") a rest ∷ []
unfolding goals_from meanings row values names steps body
begins = refl

-- its conjunction is selected, and behind a stands the second one
selected : goals_from body 9 1 ≡ a ∷ rest ∷ []
unfolding goals_from meanings row values names steps body
selected = refl

behind_a : goals_from body 8 0 ≡ rest ∷ []
unfolding goals_from meanings row values names steps body
behind_a = refl

opened : goals_from body 8 1 ≡ of_two (codes ";") (atom (codes "b")) (atom (codes "c")) ∷ atom (codes "d") ∷ []
unfolding goals_from meanings row values names steps body
opened = refl

failing : goals_from body FAIL 0 ≡ atom (codes "fail") ∷ []
unfolding goals_from meanings row values names steps body
failing = refl

-- ---- a body: (a -> b ; c), (b -> c)

-- the sequences of a, b, c, b and c; and the body's: the `->` without an else, and the one with it, with one conjunction
arrows : Text
arrows = record {
  names = names;
  nodes = Atom 0 ∷ Atom 1 ∷ Atom 2 ∷ Atom 3 ∷ [];
  steps =
      step ops.Proceed 0 ++ step ops.Goal 0
      ++ (step ops.Proceed 0 ++ step ops.Goal 1)
      ++ (step ops.Proceed 0 ++ step ops.Goal 2)
      ++ (step ops.Proceed 0 ++ step ops.Goal 3)
      ++ (step ops.Proceed 0 ++ step (ops.IfThen 5 7) 0 ++ record { op = ops.IfThenElse 3 5 7; conjunctions = 1; goal = 0 } ∷ []);
}

abbrev with_else : Tree
with_else = of_two (codes ";") (of_two (codes "->") (atom (codes "a")) (atom (codes "b"))) (atom (codes "c"))

abbrev without : Tree
without = of_two (codes "->") (atom (codes "b")) (atom (codes "c"))

arrows_begin : goals_from arrows 10 0 ≡ of_two (codes ",") with_else without ∷ []
unfolding goals_from meanings row values names arrows
arrows_begin = refl

arrows_selected : goals_from arrows 10 1 ≡ with_else ∷ without ∷ []
unfolding goals_from meanings row values names arrows
arrows_selected = refl

arrow_behind : goals_from arrows 9 0 ≡ without ∷ []
unfolding goals_from meanings row values names arrows
arrow_behind = refl
