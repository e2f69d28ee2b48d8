-- Updates, with the procedures that they name.
use Rattle.std.specs.Prelude.{◌≡◌, Bool, true, false, List, [], ◌∷◌}
use Rattle.plclause.specs.Clause.{Clause}
use Rattle.plclause.specs.Indicators.{indicator}
use Rattle.plevent.specs.declared.update.Update.{Update}
use Rattle.plevent.specs.declared.update.Update.TheVariants.{First, Last, Erase, EraseOwn, Declare}
use Rattle.plstore.specs.declared.plan.Planned.{Planned}
use Rattle.plstore.specs.declared.plan.Planned.TheVariants.{Put, Drop, DropOwn, Name}

abbrev pub put_update : Bool → Clause → Update
put_update true c = First c
put_update false c = Last c

-- the update that is planned
abbrev pub update_of : Planned → Update
update_of (Put c p f) = put_update f c
update_of (Drop y) = Erase y
update_of (DropOwn k) = EraseOwn k
update_of (Name p k) = Declare p

-- a clause's procedure is that of its head, and a declared one is named twice
abbrev pub IsPlanned : Planned → Type 0
IsPlanned (Put c p f) = p ≡ indicator c.head
IsPlanned (Drop y) = Unit {0}
IsPlanned (DropOwn k) = Unit {0}
IsPlanned (Name p k) = k ≡ p

abbrev pub updates_of : List Planned → List Update
updates_of [] = []
updates_of (x ∷ xs) = update_of x ∷ updates_of xs

abbrev pub AllPlanned : List Planned → Type 0
AllPlanned [] = Unit {0}
AllPlanned (x ∷ xs) = IsPlanned x × AllPlanned xs
