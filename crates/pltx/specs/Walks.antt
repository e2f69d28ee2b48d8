-- What a thread sees of its own updates: they are one last batch, at a place b above all, and update k is the name (b, k).
use Rattle.std.specs.Prelude.{◌≢◌, ℕ, suc, Bool, true, false, not, List, [], ◌∷◌, filter, take, Option, Some, None}
use Rattle.plterm.specs.declared.indicator.Indicator.{Indicator}
use Rattle.plevent.specs.declared.update.Update.{Update}
use Rattle.plevent.specs.declared.update.Update.TheVariants.{First, Last, Erase, EraseOwn, Declare}
use Rattle.plevent.specs.declared.update.Living.{Living}
use Rattle.plevent.specs.Alive.{Stamped, change_if, stamped, named, living}
use Rattle.plrecords.specs.declared.record.Cursor.{Cursor}
use Rattle.pltx.specs.declared.own.OwnCursor.{OwnCursor}
use Rattle.pltx.specs.declared.target.Target.TheVariants.{Committed}
use Rattle.pltx.specs.Own.{erased_in}

-- a committed clause that is erased has another place than b
abbrev pub IsErasedApart : ℕ → Update → Type 0
IsErasedApart b (First c) = Unit {0}
IsErasedApart b (Last c) = Unit {0}
IsErasedApart b (Erase y) = y.place ≢ b
IsErasedApart b (EraseOwn k) = Unit {0}
IsErasedApart b (Declare q) = Unit {0}

abbrev pub AllErasedApart : ℕ → List Update → Type 0
AllErasedApart b [] = Unit {0}
AllErasedApart b (u ∷ us) = IsErasedApart b u × AllErasedApart b us

-- the first m own updates, as a batch at b
abbrev pub own_batch : ℕ → ℕ → List Update → List Stamped
own_batch b m us = stamped b 0 (take m us)

-- a cursor at an own clause
abbrev pub cursor_at : ℕ → OwnCursor → Cursor
cursor_at b OwnCursor.Start = Cursor.Start
cursor_at b (OwnCursor.After k) = Cursor.After (named b k)

-- updates without those that put a clause behind all others, or before all others
abbrev pub is_last : Update → Bool
is_last (First c) = false
is_last (Last c) = true
is_last (Erase y) = false
is_last (EraseOwn k) = false
is_last (Declare q) = false

abbrev pub is_first : Update → Bool
is_first (First c) = true
is_first (Last c) = false
is_first (Erase y) = false
is_first (EraseOwn k) = false
is_first (Declare q) = false

-- how many updates there are before the first that puts a clause before all others
abbrev pub before_first : List Update → ℕ
before_first [] = 0
before_first (u ∷ us) = change_if (is_first u) 0 (suc (before_first us))

-- the update that a number has, if any, puts a clause before all others
abbrev pub puts_first : Option Update → Bool
puts_first None = false
puts_first (Some u) = is_first u

abbrev pub no_last : List Stamped → List Stamped
no_last ss = filter (λ s. not (is_last s.update)) ss

abbrev pub no_first : List Stamped → List Stamped
no_first ss = filter (λ s. not (is_first s.update)) ss

-- the own clauses alive that were put in front, and those that were put behind
abbrev pub own_fronts : List Stamped → Indicator → List Living
own_fronts ss p = living (no_last ss) p

abbrev pub own_backs : List Stamped → Indicator → List Living
own_backs ss p = living (no_first ss) p

-- the clauses that no own update erases
abbrev pub not_erased : List Update → List Living → List Living
not_erased us xs = filter (λ x. not (erased_in (Committed x.name) us)) xs
