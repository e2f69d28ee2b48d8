-- The definitions on small terms.
use Rattle.std.proofs.Common.{◌≡◌, ℕ, pos, negsuc, [], ◌∷◌, codes, refl}
use Rattle.std.specs.declared.cmp.Ordering.TheVariants.{Less, Equal, Greater}
use Rattle.plterm.specs.declared.node.Node.TheVariants.{Var, Atom, Compound}
use Rattle.plterm.specs.Tree.{Tree, var, int, atom, compound, none, more}
use Rattle.plterm.specs.Reading.{tree_of}
use Rattle.plterm.specs.Variables.{variables, copied, IsVariant}
use Rattle.plterm.specs.Building.{trees_of}
use Rattle.plterm.specs.Order.{order}

-- f(V7, V3, V7)
abbrev f : ℕ → ℕ → Tree
f x y = compound (codes "f") (more (var x) (more (var y) (more (var x) none)))

variables_of : variables (f 7 3) ≡ 7 ∷ 3 ∷ []
variables_of = refl

copied_from_10 : copied 10 (f 7 3) ≡ f 10 11
copied_from_10 = refl

variants : IsVariant (f 7 3) (f 3 7)
variants = refl

-- g(f(V7, V3, V7), a) in prefix order, and from nodes behind their arguments
in_prefix_order : tree_of (Compound (codes "g") 2 ∷ Compound (codes "f") 3 ∷ Var 7 ∷ Var 3 ∷ Var 7 ∷ Atom (codes "a") ∷ []) ≡ compound (codes "g") (more (f 7 3) (more (atom (codes "a")) none))
in_prefix_order = refl

behind_arguments : trees_of (Var 7 ∷ Var 3 ∷ Var 7 ∷ Compound (codes "f") 3 ∷ Atom (codes "a") ∷ Compound (codes "g") 2 ∷ []) ≡ compound (codes "g") (more (f 7 3) (more (atom (codes "a")) none)) ∷ []
behind_arguments = refl

-- the order of small terms
older_first : order (var 3) (var 10) ≡ Less
unfolding order
older_first = refl

classes : (order (var 10) (int (negsuc 0)) ≡ Less) × (order (int (pos 9)) (atom (codes "a")) ≡ Less) × (order (atom (codes "z")) (f 0 1) ≡ Less)
unfolding order
classes = (refl, refl, refl)

by_value : order (int (negsuc 1)) (int (negsuc 0)) ≡ Less
unfolding order
by_value = refl

-- a longer name may precede a shorter one, and no name is before the empty one
by_bytes : (order (atom (codes "abc")) (atom (codes "b")) ≡ Less) × (order (atom (codes "ab")) (atom (codes "abc")) ≡ Less) × (order (atom []) (atom (codes "a")) ≡ Less)
unfolding order
by_bytes = (refl, refl, refl)

-- z(a) precedes a(a, a), b(z) follows a(z), and g(a, z) precedes g(b, a)
by_arity_first : order (compound (codes "z") (more (atom (codes "a")) none)) (compound (codes "a") (more (atom (codes "a")) (more (atom (codes "a")) none))) ≡ Less
unfolding order
by_arity_first = refl

by_name_then : order (compound (codes "b") (more (atom (codes "a")) none)) (compound (codes "a") (more (atom (codes "z")) none)) ≡ Greater
unfolding order
by_name_then = refl

from_the_left : order (compound (codes "g") (more (atom (codes "a")) (more (atom (codes "z")) none))) (compound (codes "g") (more (atom (codes "b")) (more (atom (codes "a")) none))) ≡ Less
unfolding order
from_the_left = refl

the_same : order (f 7 3) (f 7 3) ≡ Equal
unfolding order
the_same = refl
