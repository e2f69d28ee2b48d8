-- The clauses of a walk that may be for a goal of a key.
use Rattle.std.specs.Prelude.{ℕ, Bool, ◌&&◌, List, [], ◌∷◌, filter, Option}
use Rattle.plevent.specs.declared.update.ClauseName.{ClauseName}
use Rattle.plevent.specs.declared.key.Key.{Key}
use Rattle.plevent.specs.declared.update.Living.{Living}
use Rattle.plterm.specs.declared.indicator.Indicator.{Indicator}
use Rattle.plevent.specs.Alive.{same_name, names_of, lives_as, change_if, is_of}
use Rattle.plevent.specs.Keys.{first_key, may_fit}
use Rattle.plrecords.specs.declared.record.Record.{Record}
use Rattle.plrecords.specs.declared.record.Cursor.{Cursor}
use Rattle.plrecords.specs.declared.record.Cursor.TheVariants.{Start, After}
use Rattle.plrecords.specs.Kept.{head, seen}

-- a clause may be for a goal of a key
abbrev pub fits : Key → Living → Bool
fits k x = may_fit k (first_key x.clause.head)

-- the name of the first of them
abbrev pub first_like : Key → List Living → Option ClauseName
first_like k xs = head (names_of (filter (fits k) xs))

-- those behind a name
abbrev pub past : ClauseName → List Living → List Living
past x [] = []
past x (y ∷ ys) = change_if (same_name x y.name) ys (past x ys)

abbrev pub rest : Cursor → List Living → List Living
rest Start xs = xs
rest (After x) xs = past x xs

-- the name of the first one behind a cursor
abbrev pub next_like_of : Key → Cursor → List Living → Option ClauseName
next_like_of k c xs = first_like k (rest c xs)

-- a clause may be for a goal of a key, and is of the procedure
abbrev pub suits : Indicator → Key → Living → Bool
suits p k x = fits k x && is_of p x.clause

-- a record is seen at g, and its clause suits
abbrev pub is_met : ℕ → Indicator → Key → Record → Bool
is_met g p k r = seen g r && suits p k (lives_as r.name r.clause)
