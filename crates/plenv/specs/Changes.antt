-- How an environment changes.
use Rattle.std.specs.Prelude.{◌≡◌, ℕ, ◌+◌, ◌<◌, ◌≤◌, min, max, List, [], ◌∷◌, ◌++◌, length, take, drop, nat_lt, Some}
use Rattle.std.specs.List.{filter}
use Rattle.plterm.specs.Tree.{Tree, var}
use Rattle.plsubst.specs.Subst.{bind}
use Rattle.plsubst.specs.Unify.{unify}
use Rattle.platoms.specs.Names.{Extends as ExtendsNames}
use Rattle.plcells.specs.declared.cell.Cell.{Cell}
use Rattle.plcells.specs.Store.{Store, IsValue, AreValues, IsFresh, at, value, bounded_by, Preserves as PreservesHeap}
use Rattle.plenv.specs.declared.slot.Noted.{Noted}
use Rattle.plenv.specs.declared.slot.Mark.{Mark}
use Rattle.plenv.specs.Env.{Env, slot_at, variable, cut, renamed, IsWithin, IsMark}
use Rattle.plenv.specs.declared.slot.Slot.TheVariants.{Free}

-- every mark in use is kept, and the environment at it
pub record Keeps (old new : Env) : Type 0 where
  pub within : (m : Mark) → IsWithin m old → IsWithin m new
  pub kept : (m : Mark) → IsWithin m old → cut m new ≡ renamed (cut m old) new.heap.names
  pub names : ExtendsNames old.heap.names new.heap.names

-- all that was there stands for what it did, and every mark is kept
pub record Extends (old new : Env) : Type 0 where
  pub values : (v : Cell) → IsValue old.heap v → IsValue new.heap v × (value new.heap v ≡ value old.heap v)
  pub slots : length old.slots ≤ length new.slots
  pub variables : (i : ℕ) → i < length old.slots → variable new i ≡ variable old i
  pub count : old.count ≤ new.count
  pub keeps : Keeps old new

-- slots for so many new variables, from a place on
pub record Enters (old new : Env) (base width : ℕ) : Type 0 where
  pub place : base ≡ length old.slots
  pub heap : new.heap ≡ old.heap
  pub slots : length new.slots ≡ base + width
  pub variables : (x : ℕ) → x < width → variable new (base + x) ≡ var (old.count + x)
  pub older : (i : ℕ) → i < base → variable new i ≡ variable old i
  pub count : new.count ≡ old.count + width
  pub keeps : Keeps old new

-- a value for a term, with all that was there as it was
pub record Puts (old new : Env) (v : Cell) (t : Tree) : Type 0 where
  pub fits : IsValue new.heap v
  pub is : value new.heap v ≡ t
  pub extends : Extends old new
  pub slots : length new.slots ≡ length old.slots
  pub count : new.count ≡ old.count

-- values for some terms
abbrev pub AreFor : Store → List Cell → List Tree → Type 0
AreFor h [] [] = Unit {0}
AreFor h [] (t ∷ ts) = ⊥
AreFor h (v ∷ vs) [] = ⊥
AreFor h (v ∷ vs) (t ∷ ts) = IsValue h v × (value h v ≡ t) × AreFor h vs ts

pub record PutsAll (old new : Env) (vs : List Cell) (ts : List Tree) : Type 0 where
  pub are : AreFor new.heap vs ts
  pub extends : Extends old new
  pub slots : length new.slots ≡ length old.slots
  pub count : new.count ≡ old.count

-- what is put for variables, in each value and slot
pub record Substitutes (old new : Env) (σ : ℕ → Tree) : Type 0 where
  pub values : (v : Cell) → IsValue old.heap v → IsValue new.heap v × (value new.heap v ≡ bind σ (value old.heap v))
  pub slots : length new.slots ≡ length old.slots
  pub variables : (i : ℕ) → i < length old.slots → variable new i ≡ bind σ (variable old i)
  pub count : new.count ≡ old.count
  pub keeps : Keeps old new

-- the most general unifier was put into each value and slot
pub record Unifies (old new : Env) (a b : Tree) : Type 0 where
  pub unifier : ℕ → Tree
  pub is : unify a b ≡ Some unifier
  pub made : Substitutes old new unifier

-- no slots from a place on, but those that are older than a mark in use
abbrev pub released : ℕ → Env → Env
released base e = record { heap = e.heap; slots = take (max base e.boundary) e.slots; noted = e.noted; boundary = e.boundary; count = e.count }

-- the slots from `base` on stand from `at` on, and those between are gone
abbrev pub lowered : ℕ → ℕ → Env → Env
lowered at base e = record { heap = e.heap; slots = take at e.slots ++ drop base e.slots; noted = e.noted; boundary = e.boundary; count = e.count }

-- the slots from `base` on move down to `keep`, or, where a mark in use is newer than some there, behind those; they stay where that is no lower
pub record Lowers (keep base : ℕ) (old new : Env) (at : ℕ) : Type 0 where
  pub moved : new ≡ lowered at base old
  pub place : at ≡ min base (max keep old.boundary)

-- the same, and no more slots or variables
pub record Stays (old new : Env) : Type 0 where
  pub extends : Extends old new
  pub slots : length new.slots ≡ length old.slots
  pub count : new.count ≡ old.count

-- so many new variables were put, with the numbers from the count on
pub record PutsVariables (old new : Env) (vs : List Cell) (new_variables : ℕ) : Type 0 where
  pub many : length vs ≡ new_variables
  pub fit : AreValues new.heap vs
  pub are : (x : ℕ) → x < new_variables → value new.heap (at vs x) ≡ var (old.count + x)
  pub extends : Extends old new
  pub slots : length new.slots ≡ length old.slots
  pub count : new.count ≡ old.count + new_variables

-- a term from outside was put, with so many new variables
pub record PutsTerm (old new : Env) (v : Cell) (t : Tree) (new_variables : ℕ) : Type 0 where
  pub fits : IsValue new.heap v
  pub is : value new.heap v ≡ t
  pub extends : Extends old new
  pub slots : length new.slots ≡ length old.slots
  pub count : new.count ≡ old.count + new_variables

-- no slot is free that was not
abbrev pub NoneFreed : Env → Env → Type 0
NoneFreed old new = (i n : ℕ) → i < length new.slots → slot_at new.slots i ≡ Free n → slot_at old.slots i ≡ Free n

-- the numbers from n to n + k are those of variables now, and no other is that was of none
abbrev pub IsNewAt : Store → Store → ℕ → ℕ → Type 0
IsNewAt old new n k = (m : ℕ) → IsFresh old m → (n ≤ m → m < n + k → ⊥) → IsFresh new m

-- values of k new variables with the numbers from n on
pub record AddsVariables (old new : Store) (vs : List Cell) (n k : ℕ) : Type 0 where
  pub count : length vs ≡ k
  pub fit : AreValues new vs
  pub are : (x : ℕ) → x < k → value new (at vs x) ≡ var (n + x)
  pub preserves : PreservesHeap old new
  pub names : new.names ≡ old.names
  pub fresh : IsNewAt old new n k

-- only so many cells and slots are old
abbrev pub bounded : ℕ → ℕ → Env → Env
bounded cells slots e = record { heap = bounded_by e.heap cells; slots = e.slots; noted = e.noted; boundary = slots; count = e.count }

-- a mark that is not newer than another, with no more than so many cells and slots
pub record IsBelow (m since : Mark) (cells slots : ℕ) : Type 0 where
  pub trail : m.heap.trail ≤ since.heap.trail
  pub noted : m.noted ≤ since.noted
  pub cells_within : m.heap.cells ≤ cells
  pub slots_within : m.slots ≤ slots

-- the notes of slots below a number
abbrev pub older : ℕ → List Noted → List Noted
older b ns = filter (λ n. nat_lt n.slot b) ns

-- the choice at a mark is given up: only so many cells and slots are old from now on, and marks below it stay
pub record Commits (since : Mark) (cells slots : ℕ) (old new : Env) : Type 0 where
  pub values : (v : Cell) → IsValue old.heap v → IsValue new.heap v × (value new.heap v ≡ value old.heap v)
  pub same_slots : new.slots ≡ old.slots
  pub variables : (i : ℕ) → variable new i ≡ variable old i
  pub count : new.count ≡ old.count
  pub names : new.heap.names ≡ old.heap.names
  pub cells_old : new.heap.boundary ≡ cells
  pub slots_old : new.boundary ≡ slots
  pub marks : (m : Mark) → IsMark m old → IsBelow m since cells slots → IsMark m new × (cut m new ≡ cut m old)
