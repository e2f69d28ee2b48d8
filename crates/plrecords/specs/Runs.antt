-- Runs of erased records.
use Rattle.std.specs.Prelude.{◌≡◌, ℕ, ◌≤◌, true, List, length, nat_lt, slice_index_or, Bool, false, Option, Some, None}
use Rattle.plevent.specs.Alive.{change_if}
use Rattle.plrecords.specs.declared.record.Record.{Record}
use Rattle.plrecords.specs.declared.runs.ErasedRun.{ErasedRun}
use Rattle.plrecords.specs.declared.runs.RecordNotes.{RecordNotes}
use Rattle.plrecords.specs.Links.{Class, fronts, backs}

-- erased at a place or below
abbrev pub IsGone : ℕ → Option ℕ → Type 0
IsGone b None = ⊥
IsGone b (Some e) = e ≤ b

-- each record of some marked ones from low to high, both included, was erased at b or below
abbrev pub AllGone : List Bool → List Record → ℕ → ℕ → ℕ → Type 0
AllGone bs rs b low high = (j : ℕ) (d : Record) → low ≤ j → j ≤ high → slice_index_or bs j false ≡ true → IsGone b (slice_index_or rs j d).erased

-- a run from the record i on, downward and upward
pub record IsRunDown (bs : List Bool) (rs : List Record) (i : ℕ) (r : ErasedRun) : Type 0 where
  pub order : r.last ≤ i
  pub mark : slice_index_or bs r.last false ≡ true
  pub gone : AllGone bs rs r.latest r.last i

pub record IsRunUp (bs : List Bool) (rs : List Record) (i : ℕ) (r : ErasedRun) : Type 0 where
  pub order : i ≤ r.last
  pub mark : slice_index_or bs r.last false ≡ true
  pub gone : AllGone bs rs r.latest i r.last

-- on its side of its class
pub record IsRun (c : Class) (rs : List Record) (i : ℕ) (r : ErasedRun) : Type 0 where
  pub down : slice_index_or (fronts c rs) i false ≡ true → IsRunDown (fronts c rs) rs i r
  pub up : slice_index_or (backs c rs) i false ≡ true → IsRunUp (backs c rs) rs i r

abbrev pub no_place : RecordNotes
no_place = record { run = None; from = 0; group = record { up = 0; size = 0; first = 0 }; leap = record { to = 0; over = 0 } }

-- each run that is noted is one
pub record HasRuns (c : Class) (rs : List Record) (places : List RecordNotes) : Type 0 where
  pub count : length places ≡ length rs
  pub each : (i : ℕ) (r : ErasedRun) → (slice_index_or places i no_place).run ≡ Some r → IsRun c rs i r

pub record SameRuns (old new : List RecordNotes) : Type 0 where
  pub count : length new ≡ length old
  pub each : (i : ℕ) → (slice_index_or new i no_place).run ≡ (slice_index_or old i no_place).run

-- how far a walk at g passes over a run
abbrev pub end_at : ℕ → ℕ → Option ErasedRun → ℕ
end_at g i None = i
end_at g i (Some r) = change_if (nat_lt r.latest g) r.last i
