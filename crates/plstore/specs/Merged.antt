-- The chains of a look-up, and what is found by them.
use Rattle.std.specs.Prelude.{◌≡◌, ℕ, ◌<◌, ◌≤◌, ◌⊎◌, Bool, true, false, List, length, slice_index_or, Option}
use Rattle.plterm.specs.declared.indicator.Indicator.{Indicator}
use Rattle.plevent.specs.declared.key.Key.{Key}
use Rattle.plevent.specs.declared.update.ClauseName.{ClauseName}
use Rattle.plevent.specs.Alive.{is_of, lives_as, or_else}
use Rattle.plstore.specs.declared.chain.Chain.{Chain}
use Rattle.plstore.specs.declared.chain.Merged.{Merged}
use Rattle.plrecords.specs.declared.part.Part.{Part}
use Rattle.plrecords.specs.declared.record.Record.{Record}
use Rattle.plstore.specs.declared.sought.Sought.{Sought}
use Rattle.plstore.specs.declared.tables.Tables.{Tables}
use Rattle.plstore.specs.Chains.{in_chain}
use Rattle.plrecords.specs.Kept.{seen}
use Rattle.plstore.specs.Like.{first_like, suits}
use Rattle.plrecords.specs.Links.{Class, Marked}
use Rattle.plrecords.specs.Parts.{after, extent, left, marks, side, whole}
use Rattle.plstore.specs.Tables.{links_in}

-- each clause of p that may be for a goal of the key is in one of two classes
unfoldable pub Covers : Class → Class → Indicator → Key → List Record → Type 0
Covers c d p k rs = (i : ℕ) (r : Record) → i < length rs → suits p k (lives_as (slice_index_or rs i r).name (slice_index_or rs i r).clause) ≡ true →
    (c (slice_index_or rs i r).clause ≡ true) ⊎ (d (slice_index_or rs i r).clause ≡ true)

-- two chains with the same links that have each of these clauses that is sought
pub record IsMerged (p : Indicator) (k : Key) (rs : List Record) (m : Merged) : Type 0 where
  pub links : (t : Tables) → links_in t m.any ≡ links_in t m.own
  pub covers : Covers (in_chain p m.own) (in_chain p m.any) p k rs

-- a walk of m records may stand at a record of the class, or be over: it comes to none of the class before that is seen at g
pub record MayStand (f : Bool) (c : Class) (g : ℕ) (rs : List Record) (m : ℕ) (at : Option ℕ) : Type 0 where
  pub mark : Marked (marks f c rs) at
  pub passed : (j : ℕ) (d : Record) → j < length rs → slice_index_or (marks f c rs) j false ≡ true → seen g (slice_index_or rs j d) ≡ true → after f (length rs) j < m → after f (length rs) j < left f (length rs) at

-- a walk over a part of a side may begin at a record of a chain, or be over
pub record MayBegin (t : Tables) (s : Sought) (ch : Chain) (part : Part) (at : Option ℕ) : Type 0 where
  pub stands : MayStand part.front (in_chain s.pred.now ch) s.g t.records.items (extent part (length t.records.items)) at
  pub order : left part.front (length t.records.items) at ≤ extent part (length t.records.items)

-- the name of the first clause that is sought in a part of a side; and in one in front and in all behind
abbrev pub found : Sought → List Record → Part → Option ClauseName
found s rs part = first_like s.key.now (side part.front (is_of s.pred.now) s.g rs (extent part (length rs)))

abbrev pub found_after : Bool → Option ClauseName → Option ClauseName → Option ClauseName
found_after true here behind = or_else here behind
found_after false here behind = here

abbrev pub found_from : Sought → List Record → Part → Option ClauseName
found_from s rs part = found_after part.front (found s rs part) (found s rs (whole false))
