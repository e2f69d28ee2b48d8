-- What tables were before an update, told by what is noted of it and by the tables after it.
use Rattle.std.specs.Prelude.{◌≡◌, ◌≢◌, ℕ, suc, ◌<◌, List, [], ◌∷◌, ◌++◌, length, nat_eq, false, None, reverse}
use Rattle.plterm.specs.declared.indicator.Indicator.{Indicator}
use Rattle.plterm.specs.Indicators.{same_indicator}
use Rattle.plrecords.specs.declared.ends.Ends.{Ends}
use Rattle.plrecords.specs.declared.record.Record.{Record}
use Rattle.plrecords.specs.declared.record.Declared.{Declared}
use Rattle.plrecords.specs.Kept.{nothing}
use Rattle.plrecords.specs.Links.{ends_in}
use Rattle.plrecords.specs.Undone.{HadLinks, IsLonger, SameLinks, WasAt, WasRecord}
use Rattle.plstore.specs.declared.tables.Erasure.{Erasure}
use Rattle.plstore.specs.declared.tables.Linked.{Linked}
use Rattle.plstore.specs.declared.tables.Tables.{Tables}
use Rattle.plstore.specs.declared.trail.Change.{Change}
use Rattle.plstore.specs.declared.trail.Step.{Step}
use Rattle.plstore.specs.declared.trail.Traced.{Traced}
use Rattle.plstore.specs.Cut.{cut}
use Rattle.plstore.specs.Tables.{kept_in, IsStored}

pub record SameTables (old new : Tables) : Type 0 where
  pub records : new.records.items ≡ old.records.items
  pub declared : new.declared.items ≡ old.declared.items
  pub by_procedure : SameLinks old.by_procedure new.by_procedure
  pub index : (p : Indicator) → ends_in same_indicator new.index p ≡ ends_in same_indicator old.index p
  pub by_slot : SameLinks old.by_slot new.by_slot
  pub slots : (n : ℕ) → ends_in nat_eq new.slots n ≡ ends_in nat_eq old.slots n
  pub unkeyed : new.unkeyed ≡ false → old.unkeyed ≡ false

-- the last record was put
pub record WasPut (key : Indicator) (l : Linked) (old new : Tables) : Type 0 where
  pub last : Record
  pub records : new.records.items ≡ old.records.items ++ last ∷ []
  pub declared : new.declared.items ≡ old.declared.items
  pub by_procedure : IsLonger last.front l.by_procedure old.by_procedure new.by_procedure
  pub index : WasAt same_indicator key l.by_procedure (ends_in same_indicator old.index) (ends_in same_indicator new.index)
  pub by_slot : IsLonger last.front l.by_slot old.by_slot new.by_slot
  pub slots : WasAt nat_eq l.slot l.by_slot (ends_in nat_eq old.slots) (ends_in nat_eq new.slots)
  pub unkeyed : new.unkeyed ≡ false → old.unkeyed ≡ false

-- a record was erased
pub record WasErased (e : Erasure) (old new : Tables) : Type 0 where
  pub records : WasRecord e.number old.records.items new.records.items
  pub declared : new.declared.items ≡ old.declared.items
  pub by_procedure : HadLinks e.by_procedure old.by_procedure new.by_procedure
  pub index : (p : Indicator) → ends_in same_indicator new.index p ≡ ends_in same_indicator old.index p
  pub by_slot : HadLinks e.by_slot old.by_slot new.by_slot
  pub slots : (n : ℕ) → ends_in nat_eq new.slots n ≡ ends_in nat_eq old.slots n
  pub unkeyed : new.unkeyed ≡ false → old.unkeyed ≡ false

-- the last declaration was made
pub record WasDeclared (key : Indicator) (e : Ends) (old new : Tables) : Type 0 where
  pub last : Declared
  pub records : new.records.items ≡ old.records.items
  pub declared : new.declared.items ≡ old.declared.items ++ last ∷ []
  pub by_procedure : SameLinks old.by_procedure new.by_procedure
  pub index : WasAt same_indicator key e (ends_in same_indicator old.index) (ends_in same_indicator new.index)
  pub by_slot : SameLinks old.by_slot new.by_slot
  pub slots : (n : ℕ) → ends_in nat_eq new.slots n ≡ ends_in nat_eq old.slots n
  pub unkeyed : new.unkeyed ≡ false → old.unkeyed ≡ false

abbrev pub WasBefore : Change → Tables → Tables → Type 0
WasBefore (Change.Put key l) old new = WasPut key l old new
WasBefore (Change.Erased e) old new = WasErased e old new
WasBefore (Change.Declared key e) old new = WasDeclared key e old new

-- a change can be taken back
abbrev pub IsReady : Change → Tables → Type 0
IsReady (Change.Put key l) t = ((ends_in same_indicator t.index key).since ≢ None) × ((ends_in nat_eq t.slots l.slot).since ≢ None)
IsReady (Change.Erased e) t = e.number < length t.records.items
IsReady (Change.Declared key e) t = (ends_in same_indicator t.index key).since ≢ None

-- the tables before the latest step: what they keep is cut at its place, and above it nothing is kept
pub record IsStep (s : Step) (old new : Tables) : Type 0 where
  pub stored : IsStored old
  pub change : WasBefore s.change old new
  pub kept : kept_in old ≡ cut s.place (kept_in new)
  pub top : cut (suc s.place) (kept_in new) ≡ kept_in new

-- steps, the latest first, lead back to nothing
abbrev pub LeadsBack : List Step → Tables → Type 0
LeadsBack [] t = kept_in t ≡ nothing
LeadsBack (s ∷ ss) t = (old : Tables) × IsStep s old t × LeadsBack ss old

-- the latest step is below a place
abbrev pub IsBelowPlace : ℕ → List Step → Type 0
IsBelowPlace g [] = Unit {0}
IsBelowPlace g (s ∷ ss) = s.place < g

pub record IsTraced (t : Traced) : Type 0 where
  pub stored : IsStored t.tables
  pub back : LeadsBack (reverse t.trail.items) t.tables
