-- Terms put on a heap.
use Rattle.std.specs.Prelude.{◌≡◌, ℕ, ◌<◌, List, [], ◌∷◌, length, take, drop, map, reverse}
use Rattle.std.specs.Bool.{⊤}
use Rattle.plterm.specs.declared.node.Node.{Node}
use Rattle.plterm.specs.declared.node.Node.TheVariants.{Var, Int, Atom, Compound}
use Rattle.plterm.specs.Tree.{Tree, int, atom, compound, trees}
use Rattle.platoms.specs.Names.{Table, functor_name, functor_arity}
use Rattle.plcells.specs.declared.cell.Cell.{Cell}
use Rattle.plcells.specs.declared.cell.Argument.{Argument}
use Rattle.plcells.specs.declared.cell.Argument.TheVariants.{Value, Variable}
use Rattle.plcells.specs.Store.{Store, at, value, frees, IsValue, IsFresh, Preserves}
use Rattle.plcells.specs.Blocks.{stands_for}

-- the functor of a name and so many arguments
pub record IsFunctorNamed (t : Table) (f : ℕ) (s : List ℕ) (k : ℕ) : Type 0 where
  pub within : f < length t.functors
  pub name : functor_name t f ≡ s
  pub arity : functor_arity t f ≡ k

-- what the variable x of a term stands for that is put with these values
abbrev pub standing : Store → List Cell → ℕ → Tree
standing h vs x = value h (at vs x)

-- values, and no new variables
abbrev pub AreGiven : Store → List Argument → Type 0
AreGiven h [] = ⊤
AreGiven h (Value v ∷ xs) = IsValue h v × AreGiven h xs
AreGiven h (Variable x ∷ xs) = ⊥

-- there is a value for the variable that a node may be
abbrev pub HasValue : List Cell → Node → Type 0
HasValue vs (Var x) = x < length vs
HasValue vs (Int i) = ⊤
HasValue vs (Atom s) = ⊤
HasValue vs (Compound s k) = ⊤

-- a node before terms: it takes its arguments from their front
abbrev pub laid : (ℕ → Tree) → Node → List Tree → List Tree
laid σ (Var x) ts = σ x ∷ ts
laid σ (Int i) ts = int i ∷ ts
laid σ (Atom s) ts = atom s ∷ ts
laid σ (Compound s k) ts = compound s (trees (take k ts)) ∷ drop k ts

-- all that was there stands for what it did, and no variable is new
pub record AddsNoVariable (old new : Store) : Type 0 where
  pub preserves : Preserves old new
  pub fresh : (m : ℕ) → IsFresh old m → IsFresh new m
  pub frees : frees new.cells ≡ frees old.cells

-- values on a stack before a node and after it, the topmost first
pub record PutsNode (old new : Store) (vs : List Cell) (n : Node) (before after : List Argument) : Type 0 where
  pub given : AreGiven new (reverse after)
  pub are : map (stands_for new) (reverse after) ≡ laid (standing old vs) n (map (stands_for old) (reverse before))
  pub adds : AddsNoVariable old new

-- a value for a term
pub record PutsTerm (old new : Store) (v : Cell) (t : Tree) : Type 0 where
  pub fits : IsValue new v
  pub is : value new v ≡ t
  pub adds : AddsNoVariable old new
