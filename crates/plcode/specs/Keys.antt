-- The keys of first arguments: a filter before unification.
use Rattle.std.specs.Prelude.{◌≡◌, ◌<◌, ℕ, Bool, true, false, None, List, [], ◌∷◌, length, nat_eq}
use Rattle.std.specs.Ordering.{int_eq}
use Rattle.plterm.specs.Tree.{Tree, int, atom, compound, Trees, list_of}
use Rattle.plsubst.specs.Subst.{bind, shift}
use Rattle.plsubst.specs.Unify.{unify}
use Rattle.platoms.specs.Names.{Table, IsTable, atom_at, functor_name, functor_arity}
use Rattle.plsearch.specs.Forms.{arguments}
use Rattle.plcode.specs.declared.key.Key.{Key}
use Rattle.plcode.specs.declared.key.Key.TheVariants.{Any, Int, Atom, Fun}

-- a term begins with an atom, or a compound with a functor, of that number
pub record IsAtom (t : Table) (a : ℕ) (u : Tree) : Type 0 where
  pub within : a < length t.atoms
  pub is : u ≡ atom (atom_at t a)

pub record IsCompound (t : Table) (f : ℕ) (u : Tree) : Type 0 where
  pub within : f < length t.functors
  pub args : Trees
  pub is : u ≡ compound (functor_name t f) args
  pub arity : functor_arity t f ≡ length (list_of args)

-- the key says what a term is, or nothing
abbrev pub IsKey : Table → Key → Tree → Type 0
IsKey t Any u = Unit {0}
IsKey t (Int i) u = u ≡ int i
IsKey t (Atom a) u = IsAtom t a u
IsKey t (Fun f) u = IsCompound t f u

-- two keys that tell terms apart
abbrev pub Differ : Key → Key → Type 0
Differ Any l = ⊥
Differ k Any = ⊥
Differ k l = k ≡ l → ⊥

-- terms with such keys have no common instance, so they do not unify
abbrev pub KeysPart : Type 0
KeysPart = (t : Table) → IsTable t → (k l : Key) → (u v : Tree) → IsKey t k u → IsKey t l v → Differ k l → (σ τ : ℕ → Tree) → bind σ u ≡ bind τ v → ⊥

-- the key of the first argument; that of anything, if there is none
abbrev pub IsFirstKey : Table → Key → List Tree → Type 0
IsFirstKey t k [] = k ≡ Any
IsFirstKey t k (u ∷ us) = IsKey t k u

-- whether a clause of a key may be for a goal of a key: one of them is that of anything, or they are one
abbrev pub admits : Key → Key → Bool
admits Any l = true
admits (Int i) Any = true
admits (Int i) (Int j) = int_eq i j
admits (Int i) (Atom b) = false
admits (Int i) (Fun g) = false
admits (Atom a) Any = true
admits (Atom a) (Int j) = false
admits (Atom a) (Atom b) = nat_eq a b
admits (Atom a) (Fun g) = false
admits (Fun f) Any = true
admits (Fun f) (Int j) = false
admits (Fun f) (Atom b) = false
admits (Fun f) (Fun g) = nat_eq f g

-- a goal does not unify with a head whose key it does not admit, whatever the head's variables are
abbrev pub HeadsPart : Type 0
HeadsPart = (t : Table) → IsTable t → (k l : Key) → (g h : Tree) → IsFirstKey t k (arguments g) → IsFirstKey t l (arguments h) → admits k l ≡ false → (n : ℕ) → unify g (shift n h) ≡ None
