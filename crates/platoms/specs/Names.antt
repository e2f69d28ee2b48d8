-- Names by number.
use Rattle.std.specs.Prelude.{◌≡◌, ℕ, ◌<◌, ◌≤◌, ◌==◌, Bool, ◌&&◌, List, [], length, take, get_or, Option, Some, None}
use Rattle.std.specs.Arc.{arc_value}
use Rattle.std.specs.declared.sync.Arc.{Arc}
use Rattle.indexmap.specs.IndexSet.{IndexSet}
use Rattle.plterm.specs.Reading.{IsName}
use Rattle.platoms.specs.declared.evaluable.Operation.{Operation}
use Rattle.platoms.specs.declared.names.Entry.{Entry}
use Rattle.platoms.specs.declared.names.Functor.{Functor}
use Rattle.platoms.specs.Evaluable.{operation_of}

-- the names of atoms and the functors, each at its number
pub record Table : Type 0 where
  pub atoms : List (List ℕ)
  pub functors : List Functor

abbrev pub atom_at : Table → ℕ → List ℕ
atom_at t a = get_or t.atoms a []

abbrev pub no_functor : Functor
no_functor = record { name = 0; arity = 0 }

abbrev pub functor_at : Table → ℕ → Functor
functor_at t f = get_or t.functors f no_functor

-- whether name and arity are the same
abbrev pub same_functor : Functor → Functor → Bool
same_functor a b = (a.name == b.name) && (a.arity == b.arity)

-- the name of a functor
abbrev pub functor_name : Table → ℕ → List ℕ
functor_name t f = atom_at t ((functor_at t f).name)

abbrev pub functor_arity : Table → ℕ → ℕ
functor_arity t f = (functor_at t f).arity

-- what a functor evaluates to, if it is evaluable
abbrev pub operation_at : Table → ℕ → Option Operation
operation_at t f = operation_of (functor_name t f) (functor_arity t f)

-- a functor of the table's names, with 1 to 1,024 arguments
pub record IsFunctor (t : Table) (k : Functor) : Type 0 where
  pub name : k.name < length t.atoms
  pub some : 0 < k.arity
  pub most : k.arity ≤ 1024

-- each number has a name of its own
pub record IsTable (t : Table) : Type 0 where
  pub atoms : (a : ℕ) → a < length t.atoms → IsName (atom_at t a)
  pub functors : (f : ℕ) → f < length t.functors → IsFunctor t (functor_at t f)
  pub atom_once : (a b : ℕ) → a < length t.atoms → b < length t.atoms → atom_at t a ≡ atom_at t b → a ≡ b
  pub functor_once : (f g : ℕ) → f < length t.functors → g < length t.functors → functor_at t f ≡ functor_at t g → f ≡ g

-- all numbers of the old table stand for what they did
pub record Extends (old new : Table) : Type 0 where
  pub atoms : take (length old.atoms) new.atoms ≡ old.atoms
  pub functors : take (length old.functors) new.functors ≡ old.functors

pub record HasAtom (t : Table) (a : ℕ) (name : List ℕ) : Type 0 where
  pub within : a < length t.atoms
  pub is : atom_at t a ≡ name

pub record HasFunctor (t : Table) (f : ℕ) (k : Functor) : Type 0 where
  pub within : f < length t.functors
  pub is : functor_at t f ≡ k

abbrev pub no_entry : Entry
no_entry = record { functor = no_functor; operation = None }

-- each functor, and what it evaluates to, stands at its number
pub record Lists (t : Table) (entries : List Entry) : Type 0 where
  pub count : length entries ≡ length t.functors
  pub each : (f : ℕ) → f < length t.functors → get_or entries f no_entry ≡ record { functor = functor_at t f; operation = operation_at t f }

-- the keys of a set that is shared, if there is one
abbrev pub keys_of : {X S Z : Type 0} → Option (Arc (IndexSet X S) Z) → List X
keys_of None = []
keys_of (Some set) = (arc_value set).keys
