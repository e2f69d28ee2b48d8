-- Room for more records, taken before anything changes.
use Rattle.std.specs.Prelude.{ℕ, ◌≤◌, ◌+◌, ◌^◌, vec_len}
use Rattle.std.specs.Vec.{vec_capacity}
use Rattle.std.specs.HashMap.{spare}
use Rattle.plrecords.specs.Room.{HasLinkRoom}
use Rattle.plstore.specs.declared.tables.Tables.{Tables}

-- there is room for n more updates
pub record HasRoom (n : ℕ) (t : Tables) : Type 0 where
  pub numbers : vec_len t.records + n ≤ 2 ^ 32
  pub records : vec_len t.records + n ≤ vec_capacity t.records
  pub declared : vec_len t.declared + n ≤ vec_capacity t.declared
  pub index : n ≤ spare t.index
  pub by_procedure : HasLinkRoom n t.by_procedure
  pub slots : n ≤ spare t.slots
  pub by_slot : HasLinkRoom n t.by_slot
