-- How records of one side of a class are linked, and where each side begins and ends.
use Rattle.std.specs.Prelude.{◌≡◌, ℕ, zero, suc, Bool, true, false, ◌&&◌, not, List, [], ◌∷◌, ◌++◌, map, take, drop, reverse, Option, Some, None, length, slice_index_or, slice_set, nat_lt, unwrap_or}
use Rattle.std.specs.HashMap.{HashMap, get}
use Rattle.std.specs.declared.hash.FoldHasher.{FoldHasher}
use Rattle.std.specs.declared.hash.BuildHasherDefault.{BuildHasherDefault}
use Rattle.plclause.specs.Clause.{Clause}
use Rattle.plevent.specs.declared.update.Living.{Living}
use Rattle.plevent.specs.Alive.{change_if, or_else}
use Rattle.plrecords.specs.declared.record.Record.{Record}
use Rattle.plrecords.specs.declared.ends.Ends.{Ends}
use Rattle.plrecords.specs.Kept.{picked}

-- the last mark below n, and the first one of a list that begins at k
abbrev pub last_below : List Bool → ℕ → Option ℕ
last_below bs zero = None
last_below bs (suc n) = change_if (slice_index_or bs n false) (Some n) (last_below bs n)

abbrev pub first_from : ℕ → List Bool → Option ℕ
first_from k [] = None
first_from k (b ∷ bs) = change_if b (Some k) (first_from (suc k) bs)

-- clauses whose records are linked with one another, as those of a procedure, or of a slot
abbrev pub Class : Type 0
Class = Clause → Bool

-- those of a key, where each clause has one
abbrev pub class_at : {K : Type 0} → (K → K → Bool) → (Clause → K) → K → Class
class_at eq key k c = eq (key c) k

-- which records are of c, put in front of others or behind them
abbrev pub front_of : Class → Record → Bool
front_of c r = r.front && c r.clause

abbrev pub back_of : Class → Record → Bool
back_of c r = not r.front && c r.clause

abbrev pub fronts : Class → List Record → List Bool
fronts c rs = map (front_of c) rs

abbrev pub backs : Class → List Record → List Bool
backs c rs = map (back_of c) rs

-- the clauses of c that are seen at g: those in front below n downward, and those behind from k on upward
abbrev pub down : Class → ℕ → List Record → ℕ → List Living
down c g rs n = reverse (picked (front_of c) g (take n rs))

abbrev pub up : Class → ℕ → List Record → ℕ → List Living
up c g rs k = picked (back_of c) g (drop k rs)

-- where the records of each key begin and end
abbrev pub Index : Type 0 → Type 0
Index K = HashMap K Ends (BuildHasherDefault FoldHasher)

abbrev pub no_ends : Ends
no_ends = record { since = None; newest_front = None; oldest_back = None; newest_back = None }

-- the record of a side to which a walk comes first
abbrev pub first_end : Bool → Ends → Option ℕ
first_end true e = e.newest_front
first_end false e = e.oldest_back

abbrev pub ends_in : {K : Type 0} → (K → K → Bool) → Index K → K → Ends
ends_in eq m k = unwrap_or (get eq m k) no_ends

abbrev pub since_below : ℕ → Option ℕ → Bool
since_below g None = false
since_below g (Some s) = nat_lt s g

-- the earlier of two places
abbrev pub earlier : Option ℕ → ℕ → Option ℕ
earlier None b = Some b
earlier (Some s) b = Some (change_if (nat_lt s b) s b)

-- the ends after one more record n, of a batch at b
abbrev pub ends_after : Bool → ℕ → ℕ → Ends → Ends
ends_after true n b e = record e { since = earlier e.since b; newest_front = Some n }
ends_after false n b e = record e { since = earlier e.since b; oldest_back = or_else e.oldest_back (Some n); newest_back = Some n }

-- a link is set where there is one
abbrev pub linked_at : Option ℕ → ℕ → List (Option ℕ) → List (Option ℕ)
linked_at None n next = next
linked_at (Some i) n next = slice_set next i (Some n)

-- the links after one more record n: one in front leads to the one in front before it; the last one behind now leads to the new one
abbrev pub links_after : Bool → ℕ → Ends → List (Option ℕ) → List (Option ℕ)
links_after true n e next = next ++ e.newest_front ∷ []
links_after false n e next = linked_at e.newest_back n (next ++ None ∷ [])

-- links and ends of a class are those of its records
pub record IsIndexed (c : Class) (rs : List Record) (next : List (Option ℕ)) (ends : Ends) : Type 0 where
  pub count : length next ≡ length rs
  pub front : ends.newest_front ≡ last_below (fronts c rs) (length rs)
  pub oldest : ends.oldest_back ≡ first_from 0 (backs c rs)
  pub newest : ends.newest_back ≡ last_below (backs c rs) (length rs)
  pub older : (i : ℕ) → slice_index_or (fronts c rs) i false ≡ true → slice_index_or next i None ≡ last_below (fronts c rs) i
  pub newer : (i : ℕ) → slice_index_or (backs c rs) i false ≡ true → slice_index_or next i None ≡ first_from (suc i) (drop (suc i) (backs c rs))

-- its links alone
pub record IsLinked (c : Class) (rs : List Record) (next : List (Option ℕ)) : Type 0 where
  pub count : length next ≡ length rs
  pub older : (i : ℕ) → slice_index_or (fronts c rs) i false ≡ true → slice_index_or next i None ≡ last_below (fronts c rs) i
  pub newer : (i : ℕ) → slice_index_or (backs c rs) i false ≡ true → slice_index_or next i None ≡ first_from (suc i) (drop (suc i) (backs c rs))

-- a link leads to a mark, or nowhere
abbrev pub Marked : List Bool → Option ℕ → Type 0
Marked bs None = Unit {0}
Marked bs (Some i) = slice_index_or bs i false ≡ true
