-- What values and the slots of clauses stand for.
use Rattle.std.specs.Prelude.{◌≡◌, ℕ, zero, suc, ◌+◌, ◌^◌, ◌<◌, ◌≤◌, Bool, true, false, List, [], ◌∷◌, ◌++◌, length, take, drop, get_or, set}
use Rattle.plterm.specs.Tree.{Tree, var}
use Rattle.plterm.specs.Variables.{AllBelow}
use Rattle.platoms.specs.Names.{Table}
use Rattle.plcells.specs.Store.{Store, IsHeap, IsValue, IsFresh, IsWithin as IsHeapWithin, value, cut as cut_heap, renamed as renamed_heap}
use Rattle.plenv.specs.declared.slot.Slot.{Slot}
use Rattle.plenv.specs.declared.slot.Slot.TheVariants.{Free, Set}
use Rattle.plenv.specs.declared.slot.Noted.{Noted}
use Rattle.plenv.specs.declared.slot.Mark.{Mark}

-- an environment: the heap; the slots of clauses; the slots that an undo frees again, in the order in which they were set; how many slots
-- are older than each mark in use; and how many variables there have been
pub record Env : Type 0 where
  pub heap : Store
  pub slots : List Slot
  pub noted : List Noted
  pub boundary : ℕ
  pub count : ℕ

abbrev pub slot_at : List Slot → ℕ → Slot
slot_at slots i = get_or slots i (Free 0)

abbrev pub slot_term : Store → Slot → Tree
slot_term h (Free n) = var n
slot_term h (Set v) = value h v

-- what a slot stands for
abbrev pub variable : Env → ℕ → Tree
variable e i = slot_term e.heap (slot_at e.slots i)

-- what the variables of a clause stand for, whose slots begin at a place
abbrev pub over : Env → ℕ → ℕ → Tree
over e base x = variable e (base + x)

-- a free slot's number is that of no variable on the heap
abbrev pub IsSlot : Env → Slot → Type 0
IsSlot e (Free n) = IsFresh e.heap n × (n < e.count)
IsSlot e (Set v) = IsValue e.heap v

-- each slot is one, no two are free for one variable, and no number behind the count is that of a variable
pub record AreSlots (e : Env) : Type 0 where
  pub fit : (i : ℕ) → i < length e.slots → IsSlot e (slot_at e.slots i)
  pub once : (i j n : ℕ) → i < length e.slots → j < length e.slots → slot_at e.slots i ≡ Free n → slot_at e.slots j ≡ Free n → i ≡ j
  pub low : (n : ℕ) → e.count ≤ n → IsFresh e.heap n
  pub bounded : e.boundary ≤ length e.slots
  pub few : length e.slots < 2 ^ 32

pub record IsEnv (e : Env) : Type 0 where
  pub heap : IsHeap e.heap
  pub slots : AreSlots e

-- so many free slots for variables from a number on
abbrev pub free_from : ℕ → ℕ → List Slot
free_from n zero = []
free_from n (suc k) = Free n ∷ free_from (suc n) k

-- a slot that is set is noted where it is older than a mark
abbrev pub noted_if : Bool → List Noted → Noted → List Noted
noted_if true ns n = ns ++ n ∷ []
noted_if false ns n = ns

-- without the values of these slots, the last one first
abbrev pub freed : List Slot → List Noted → List Slot
freed slots [] = slots
freed slots (n ∷ ns) = set (freed slots ns) n.slot (Free n.number)

-- the environment as it was at the mark, with the names that have come since
unfoldable pub cut : Mark → Env → Env
cut m e = record {
  heap = cut_heap m.heap e.heap;
  slots = take m.slots (freed e.slots (drop m.noted e.noted));
  noted = take m.noted e.noted;
  boundary = m.slots;
  count = m.count;
}

-- a mark in use: it is not above the boundary
pub record IsWithin (m : Mark) (e : Env) : Type 0 where
  pub heap : IsHeapWithin m.heap e.heap
  pub old : m.slots ≤ e.boundary
  pub noted : m.noted ≤ length e.noted

-- a mark of this environment that no undo has passed
pub record IsMark (m : Mark) (e : Env) : Type 0 where
  pub within : IsWithin m e
  pub env : IsEnv (cut m e)

abbrev pub renamed : Env → Table → Env
renamed e t = record { heap = renamed_heap e.heap t; slots = e.slots; noted = e.noted; boundary = e.boundary; count = e.count }

-- the slots from a place on hold the variables of a term
pub record Covers (e : Env) (base : ℕ) (t : Tree) : Type 0 where
  pub width : ℕ
  pub below : AllBelow width t
  pub within : base + width ≤ length e.slots
