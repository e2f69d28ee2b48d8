-- What links, runs and records were before a change, told by what is noted of it and by what they are after it.
use Rattle.std.specs.Prelude.{◌≡◌, ◌≢◌, ℕ, suc, ◌<◌, List, length, nat_eq, slice_index_or, slice_set, cond, Bool, Option, Some, None}
use Rattle.std.specs.HashMap.{get, spare}
use Rattle.plrecords.specs.declared.ends.Ends.{Ends}
use Rattle.plrecords.specs.declared.links.Links.{Links}
use Rattle.plrecords.specs.declared.record.Record.{Record}
use Rattle.plrecords.specs.declared.runs.ErasedRun.{ErasedRun}
use Rattle.plrecords.specs.declared.runs.RecordNotes.{RecordNotes}
use Rattle.plrecords.specs.declared.runs.Noted.{Noted}
use Rattle.plrecords.specs.declared.runs.Buried.{Buried}
use Rattle.plrecords.specs.Links.{Index, links_after}
use Rattle.plrecords.specs.Runs.{no_place, SameRuns}

abbrev pub run_at : List RecordNotes → ℕ → Option ErasedRun
run_at xs i = (slice_index_or xs i no_place).run

-- one record's run is set, if there is the record
pub record OneRun (first : ℕ) (run : Option ErasedRun) (old new : List RecordNotes) : Type 0 where
  pub count : length new ≡ length old
  pub here : first < length old → run_at new first ≡ run
  pub others : (i : ℕ) → i ≢ first → run_at new i ≡ run_at old i

-- there was that run before another was noted
pub record WasRun (n : Noted) (old new : List RecordNotes) : Type 0 where
  pub count : length new ≡ length old
  pub here : run_at old n.first ≡ n.run
  pub others : (i : ℕ) → i ≢ n.first → run_at old i ≡ run_at new i

abbrev pub HadRun : Option Noted → List RecordNotes → List RecordNotes → Type 0
HadRun None old new = SameRuns old new
HadRun (Some n) old new = WasRun n old new

-- and before an erasure
abbrev pub HadRuns : Buried → List RecordNotes → List RecordNotes → Type 0
HadRuns b old new = (between : List RecordNotes) × WasRun b.own old between × HadRun b.before between new

-- the runs of one record fewer
pub record MoreRuns (old new : List RecordNotes) : Type 0 where
  pub count : length new ≡ suc (length old)
  pub each : (i : ℕ) → i < length old → run_at new i ≡ run_at old i

pub record SameLinks (old new : Links) : Type 0 where
  pub next : new.next.items ≡ old.next.items
  pub runs : SameRuns old.places.items new.places.items

-- a link that leads nowhere
abbrev pub WasEnd : Option ℕ → List (Option ℕ) → Type 0
WasEnd None next = Unit {0}
WasEnd (Some i) next = (i < length next) × (slice_index_or next i None ≡ None)

-- one more record was linked, with a class of such ends
pub record IsLonger (front : Bool) (e : Ends) (old new : Links) : Type 0 where
  pub next : (n : ℕ) × (new.next.items ≡ links_after front n e old.next.items)
  pub last : WasEnd e.newest_back old.next.items
  pub runs : MoreRuns old.places.items new.places.items

-- a record was erased
pub record HadLinks (b : Buried) (old new : Links) : Type 0 where
  pub next : new.next.items ≡ old.next.items
  pub runs : HadRuns b old.places.items new.places.items

-- a key is there, or there is room for it
abbrev pub MaySet : {K : Type 0} → (K → K → Bool) → Index K → K → Type 0
MaySet eq m k = get eq m k ≡ None → 0 < spare m

-- the ends of each key but one are as they were; those of this one were d, and now some batch has named it
pub record WasAt {K : Type 0} (eq : K → K → Bool) (key : K) (d : Ends) (old new : K → Ends) : Type 0 where
  pub each : (k : K) → old k ≡ cond (eq key k) d (new k)
  pub named : (new key).since ≢ None

-- the record i was not erased
abbrev pub WasRecord : ℕ → List Record → List Record → Type 0
WasRecord i old new = (i < length new) × ((d : Record) → old ≡ slice_set new i (record (slice_index_or new i d) { erased = None }))
