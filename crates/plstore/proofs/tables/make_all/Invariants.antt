use Rattle.std.proofs.Common.{◌≡◌, ◌++◌, List, length, fold}
use Rattle.plevent.specs.Alive.{stamped, named}
use Rattle.plstore.specs.declared.plan.Planned.{Planned}
use Rattle.plrecords.specs.Kept.{keep}
use Rattle.plstore.specs.Plan.{updates_of, AllPlanned}
use Rattle.plrecords.specs.Rising.{InOrder}
use Rattle.plstore.specs.Room.{HasRoom}
use Rattle.plstore.specs.Tables.{kept_in, Chained}
use Rattle.plstore.specs.declared.tables.Tables.{Tables}
use Rattle.plstore.proofs.tables.make_all.Given as goal
use Prim.Native.Nat.{ℕ}

pub record Making (place number : ℕ) (yielded rest all : List Planned) (was now : Tables) : Type 0 where
  pub all_of : yielded ++ rest ≡ all
  pub count : number ≡ length yielded
  pub made : kept_in now ≡ fold keep (kept_in was) (stamped place 0 (updates_of yielded))
  pub order : InOrder (named place number) now.records.items
  pub chained : Chained now
  pub planned : AllPlanned rest
  pub room : HasRoom (length rest) now

abbrev pub invariant-loop-planned : goal.invariant-loop-planned
invariant-loop-planned l =
    (goal.iterator-loop-planned).can_next l.planned-iterator ×
    (goal.iterator-loop-planned).is_finite l.planned-iterator ×
    Making l.place l.number l.yielded l.planned-iterator.rest.items l.fn.plan.items l.initial.tables l.tables
