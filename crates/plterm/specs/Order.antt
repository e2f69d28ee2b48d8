-- The order of terms (ISO/IEC 13211-1 7.2).
use Rattle.std.specs.Prelude.{ℕ, List, length}
use Rattle.std.specs.declared.cmp.Ordering.{Ordering}
use Rattle.std.specs.declared.cmp.Ordering.TheVariants.{Less, Equal, Greater}
use Rattle.std.specs.Ordering.{nat_cmp, int_cmp, ordering_then}
use Rattle.std.specs.Cmp.Lexicographic.{slice_cmp}
use Rattle.plterm.specs.Tree.{Tree, var, int, atom, compound, Trees, none, more, list_of}

-- a variable precedes an integer, an integer an atom, and an atom a compound
abbrev pub class : Tree → ℕ
class (var v) = 0
class (int i) = 1
class (atom s) = 2
class (compound s ts) = 3

-- names by their bytes
abbrev pub name_order : List ℕ → List ℕ → Ordering
name_order s r = slice_cmp nat_cmp s r

-- compounds by their arity, and then by their name
abbrev pub functor_order : List ℕ → ℕ → List ℕ → ℕ → Ordering
functor_order s m r n = ordering_then (nat_cmp m n) (name_order s r)

-- and then by their arguments, from the left; of two variables the one of the smaller number is the older and precedes
unfoldable mutual
  pub order : Tree → Tree → Ordering
  order (var v) (var w) = nat_cmp v w
  order (int i) (int j) = int_cmp i j
  order (atom s) (atom r) = name_order s r
  order (compound s ts) (compound r us) = ordering_then (functor_order s (length (list_of ts)) r (length (list_of us))) (arguments_order ts us)
  order a b = nat_cmp (class a) (class b)

  pub arguments_order : Trees → Trees → Ordering
  arguments_order none none = Equal
  arguments_order none (more u us) = Less
  arguments_order (more t ts) none = Greater
  arguments_order (more t ts) (more u us) = ordering_then (order t u) (arguments_order ts us)
