-- What the term of a value is.
use Rattle.std.specs.Prelude.{◌≡◌, ℕ, ◌<◌, length}
use Rattle.std.specs.Ordering.{nat_cmp}
use Rattle.plterm.specs.Tree.{Tree, var, int, atom}
use Rattle.platoms.specs.Names.{IsTable, atom_at}
use Rattle.plcells.specs.Store.{Store, term, IsBlock}
use Rattle.plorder.specs.declared.shape.Shape.{Shape}
use Rattle.plorder.specs.declared.shape.Shape.TheVariants.{Variable, Integer, Atom, Compound}
use Rattle.plorder.specs.declared.compare.Pair.{Pair}
use Rattle.plorder.specs.declared.compare.Pair.TheVariants.{Variables, Integers, Atoms, Compounds, Apart}

-- an atom's name is one of the heap's, and a compound's block begins at its place
abbrev pub IsOfShape : Store → Tree → Shape → Type 0
IsOfShape h t (Variable n) = t ≡ var n
IsOfShape h t (Integer i) = t ≡ int i
IsOfShape h t (Atom a) = IsTable h.names × (a < length h.names.atoms) × (t ≡ atom (atom_at h.names a))
IsOfShape h t (Compound b) = IsTable h.names × IsBlock h b.place b.functor b.arity × (t ≡ term h b.place)

-- variables before integers, integers before atoms, atoms before compounds
abbrev pub class_of : Shape → ℕ
class_of (Variable n) = 0
class_of (Integer i) = 1
class_of (Atom a) = 2
class_of (Compound b) = 3

-- two shapes of one class, or the order of their classes
abbrev pub pair_of : Shape → Shape → Pair
pair_of (Variable m) (Variable n) = Variables m n
pair_of (Integer i) (Integer j) = Integers i j
pair_of (Atom a) (Atom b) = Atoms a b
pair_of (Compound a) (Compound b) = Compounds a b
pair_of x y = Apart (nat_cmp (class_of x) (class_of y))
