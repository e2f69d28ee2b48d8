-- Look-ups in views, computed.
use Rattle.std.specs.Prelude.{◌≡◌, ℕ, true, false, List, [], ◌∷◌, ◌++◌, pos, Some, None, refl}
use Rattle.plterm.specs.Tree.{int, atom, compound, none, more}
use Rattle.plterm.specs.declared.indicator.Indicator.{Indicator}
use Rattle.plclause.specs.Clause.{Clause}
use Rattle.plevent.specs.declared.key.Key.TheVariants.{Int}
use Rattle.plevent.specs.declared.update.Update.{Update}
use Rattle.plevent.specs.declared.update.Update.TheVariants.{First, Last, Erase, EraseOwn}
use Rattle.plevent.specs.Alive.{Stamped, exists, is_alive, living, named, names_of, stamped}
use Rattle.plrecords.specs.declared.record.Cursor.{Cursor}
use Rattle.plstore.specs.Looking.{clause_alive}
use Rattle.pltx.specs.declared.own.OwnCursor.{OwnCursor}
use Rattle.plviews.specs.declared.lookup.Reach.TheVariants.{Front, Base, Back}
use Rattle.plviews.specs.Views.{sight, whole, Sight}
use Rattle.plviews.specs.Lookups.{likely, rest_at}

abbrev p : Indicator
p = record { name = 112 ∷ []; arity = 1 }

abbrev q : Indicator
q = record { name = 113 ∷ []; arity = 1 }

-- p(N).
abbrev fact : ℕ → Clause
fact n = record { head = compound (112 ∷ []) (more (int (pos n)) none); body = atom (116 ∷ 114 ∷ 117 ∷ 101 ∷ []); variables = 0 }

-- the journal has p(3), p(5) and p(6)
abbrev journal : List Stamped
journal = stamped 2 0 (Last (fact 3) ∷ Last (fact 5) ∷ []) ++ stamped 4 0 (Last (fact 6) ∷ [])

-- on top, at 9: p(1) and p(2) are put in front, p(4) behind, p(5) is erased, and then p(1)
abbrev own : List Update
own = First (fact 1) ∷ First (fact 2) ∷ Last (fact 4) ∷ Erase (named 2 1) ∷ EraseOwn 0 ∷ []

-- what a call sees after so many of them
abbrev after : ℕ → Sight
after n = sight journal (record { place = 9; count = n }) own

-- p(2), p(1), p(3), p(6), p(4)
pub all_of : names_of (rest_at (after 4) p (Front OwnCursor.Start)) ≡ named 9 1 ∷ named 9 0 ∷ named 2 0 ∷ named 4 0 ∷ named 9 2 ∷ []
unfolding living
all_of = refl

pub behind_front : names_of (rest_at (after 4) p (Front (OwnCursor.After 1))) ≡ named 9 0 ∷ named 2 0 ∷ named 4 0 ∷ named 9 2 ∷ []
unfolding living
behind_front = refl

-- p(5) is passed over
pub behind_base : names_of (rest_at (after 4) p (Base (Cursor.After (named 2 0)))) ≡ named 4 0 ∷ named 9 2 ∷ []
unfolding living
behind_base = refl

-- also where a cursor stands at it
pub behind_erased : names_of (rest_at (after 4) p (Base (Cursor.After (named 2 1)))) ≡ named 4 0 ∷ named 9 2 ∷ []
unfolding living
behind_erased = refl

pub last : names_of (rest_at (after 4) p (Back OwnCursor.Start)) ≡ named 9 2 ∷ []
unfolding living
last = refl

pub over : rest_at (after 4) p (Back (OwnCursor.After 2)) ≡ []
unfolding living
over = refl

-- a call before p(5) was erased sees it, and one after p(1) was does not see that
pub before_erasure : names_of (rest_at (after 3) p (Base Cursor.Start)) ≡ named 2 0 ∷ named 2 1 ∷ named 4 0 ∷ named 9 2 ∷ []
unfolding living
before_erasure = refl

pub after_own_erasure : names_of (rest_at (after 5) p (Front OwnCursor.Start)) ≡ named 9 1 ∷ named 2 0 ∷ named 4 0 ∷ named 9 2 ∷ []
unfolding living
after_own_erasure = refl

-- and one before all of them sees the journal
pub journal_alone : names_of (rest_at (after 0) p (Front OwnCursor.Start)) ≡ named 2 0 ∷ named 2 1 ∷ named 4 0 ∷ []
unfolding living
journal_alone = refl

-- by a key
pub key_in_front : names_of (likely (Int (pos 1)) (rest_at (after 4) p (Front OwnCursor.Start))) ≡ named 9 0 ∷ []
unfolding living
key_in_front = refl

pub key_in_base : names_of (likely (Int (pos 6)) (rest_at (after 4) p (Front OwnCursor.Start))) ≡ named 4 0 ∷ []
unfolding living
key_in_base = refl

pub key_behind : names_of (likely (Int (pos 4)) (rest_at (after 4) p (Base Cursor.Start))) ≡ named 9 2 ∷ []
unfolding living
key_behind = refl

pub key_erased : likely (Int (pos 5)) (rest_at (after 4) p (Front OwnCursor.Start)) ≡ []
unfolding living
key_erased = refl

-- clauses by name
pub own_name : clause_alive (named 9 2) (whole (after 4)) ≡ Some (fact 4)
unfolding is_alive
own_name = refl

pub own_too_early : clause_alive (named 9 2) (whole (after 2)) ≡ None
unfolding is_alive
own_too_early = refl

pub own_erased : clause_alive (named 9 0) (whole (after 5)) ≡ None
unfolding is_alive
own_erased = refl

pub base_name : clause_alive (named 2 0) (whole (after 4)) ≡ Some (fact 3)
unfolding is_alive
base_name = refl

pub base_erased : clause_alive (named 2 1) (whole (after 4)) ≡ None
unfolding is_alive
base_erased = refl

-- procedures
pub there : exists (whole (after 0)) p ≡ true
unfolding exists
there = refl

pub not_there : exists (whole (after 5)) q ≡ false
unfolding exists
not_there = refl
