-- What of a side a walk has still to pass.
use Rattle.std.specs.Prelude.{ℕ, suc, ◌-◌, Bool, true, false, List, length, Option, Some, None, nat_eq, nat_lt}
use Rattle.plevent.specs.declared.update.Living.{Living}
use Rattle.plevent.specs.Alive.{change_if}
use Rattle.plrecords.specs.declared.part.Part.{Part}
use Rattle.plrecords.specs.declared.record.Record.{Record}
use Rattle.plrecords.specs.Links.{Class, fronts, backs, front_of, back_of, down, up}

-- how many of n records a walk comes to behind the record i
abbrev pub after : Bool → ℕ → ℕ → ℕ
after true n i = i
after false n i = n - suc i

-- how many are left where a walk stands at a record
abbrev pub left : Bool → ℕ → Option ℕ → ℕ
left f n None = 0
left f n (Some i) = suc (after f n i)

-- a walk comes to i before it comes to j
abbrev pub comes : Bool → ℕ → ℕ → Bool
comes true i j = nat_lt j i
comes false i j = nat_lt i j

abbrev pub is_behind : Bool → Option ℕ → ℕ → Bool
is_behind f None j = true
is_behind f (Some i) j = comes f i j

abbrev pub is_part : Part → ℕ → Bool
is_part part j = is_behind part.front part.behind j

-- a record, if there is one, is of a part
abbrev pub reaches : Part → Option ℕ → Bool
reaches part None = false
reaches part (Some i) = is_part part i

abbrev pub whole : Bool → Part
whole f = record { front = f; behind = None }

-- how many of n records there are behind one, or in all
abbrev pub extent_behind : Bool → ℕ → Option ℕ → ℕ
extent_behind f n None = n
extent_behind f n (Some i) = after f n i

abbrev pub extent : Part → ℕ → ℕ
extent part n = extent_behind part.front n part.behind

-- the one of two that comes first
abbrev pub first_head : Bool → Option ℕ → Option ℕ → Option ℕ
first_head f None y = y
first_head f (Some i) None = Some i
first_head f (Some i) (Some j) = Some (change_if (comes f j i) j i)

-- where the record n is passed, a link leads on
abbrev pub moved : ℕ → Option ℕ → Option ℕ → Option ℕ
moved n link None = None
moved n link (Some i) = change_if (nat_eq i n) link (Some i)

abbrev pub marks : Bool → Class → List Record → List Bool
marks true c rs = fronts c rs
marks false c rs = backs c rs

-- the clauses of c that are seen at g, of the last m records that a walk comes to
abbrev pub side : Bool → Class → ℕ → List Record → ℕ → List Living
side true c g rs m = down c g rs m
side false c g rs m = up c g rs (length rs - m)
