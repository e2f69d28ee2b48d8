-- What a store's tables keep.
use Rattle.std.specs.Prelude.{◌≡◌, ◌≢◌, ℕ, ◌<◌, false, List, length, nat_eq, slice_index_or}
use Rattle.plterm.specs.declared.indicator.Indicator.{Indicator}
use Rattle.plterm.specs.Indicators.{same_indicator}
use Rattle.plevent.specs.declared.key.Key.TheVariants.{Any}
use Rattle.plevent.specs.Alive.{is_of}
use Rattle.plevent.specs.Keys.{first_key}
use Rattle.plstore.specs.declared.chain.Chain.{Chain}
use Rattle.plstore.specs.declared.chain.Chain.TheVariants.{Procedure, Slot}
use Rattle.plrecords.specs.declared.ends.Ends.{Ends}
use Rattle.plrecords.specs.declared.links.Links.{Links}
use Rattle.plrecords.specs.declared.record.Record.{Record}
use Rattle.plstore.specs.declared.tables.Tables.{Tables}
use Rattle.plstore.specs.Chains.{IsChain}
use Rattle.plrecords.specs.Kept.{Kept, is_there}
use Rattle.plrecords.specs.Links.{ends_in, since_below}
use Rattle.plrecords.specs.Rising.{IsRising}
use Rattle.plrecords.specs.Slots.{in_slot}

abbrev pub kept_in : Tables → Kept
kept_in t = record { records = t.records.items; declared = t.declared.items }

-- no clause has a variable, or nothing, as its first argument
unfoldable pub AreKeyed : List Record → Type 0
AreKeyed rs = (i : ℕ) (r : Record) → i < length rs → first_key (slice_index_or rs i r).clause.head ≢ Any

-- the chains of each procedure and of each slot, since when each procedure is named, and whether each clause has a key
pub record Chained (t : Tables) : Type 0 where
  pub procedures : (p : Indicator) → IsChain (is_of p) t.records.items t.by_procedure (ends_in same_indicator t.index p)
  pub slots : (n : ℕ) → IsChain (in_slot n) t.records.items t.by_slot (ends_in nat_eq t.slots n)
  pub since : (p : Indicator) (g : ℕ) → since_below g (ends_in same_indicator t.index p).since ≡ is_there g p (kept_in t)
  pub keyed : t.unkeyed ≡ false → AreKeyed t.records.items

pub record IsStored (t : Tables) : Type 0 where
  pub rising : IsRising t.records.items
  pub chained : Chained t

-- the links of a chain, and where it begins and ends
abbrev pub links_in : Tables → Chain → Links
links_in t Procedure = t.by_procedure
links_in t (Slot n) = t.by_slot

abbrev pub chain_ends : Tables → Indicator → Chain → Ends
chain_ends t p Procedure = ends_in same_indicator t.index p
chain_ends t p (Slot n) = ends_in nat_eq t.slots n
