-- A store after two batches, computed.
use Rattle.std.specs.Prelude.{◌≡◌, ℕ, true, false, List, [], ◌∷◌, fold, pos, Some, None, refl}
use Rattle.plterm.specs.Tree.{Tree, var, int, atom, compound, none, more}
use Rattle.plterm.specs.declared.indicator.Indicator.{Indicator}
use Rattle.plclause.specs.Clause.{Clause}
use Rattle.plevent.specs.declared.update.Update.TheVariants.{First, Last, Erase, Declare}
use Rattle.plevent.specs.Alive.{stamped, named, names_of, clauses_of}
use Rattle.plevent.specs.declared.key.Key.TheVariants.{Any, Int, Functor}
use Rattle.plrecords.specs.declared.record.Cursor.TheVariants.{Start, After}
use Rattle.plrecords.specs.Kept.{Kept, nothing, keep, walk, here, is_there, clause_of, next_of}
use Rattle.plstore.specs.Cut.{cut}
use Rattle.plstore.specs.Like.{next_like_of}
use Rattle.plstore.specs.declared.query.Query.{Query}
use Rattle.plstore.specs.declared.query.Found.{Found}
use Rattle.plstore.specs.Looking.{found_in}

abbrev p : Indicator
p = record { name = 112 ∷ []; arity = 0 }

abbrev q : Indicator
q = record { name = 112 ∷ []; arity = 1 }

-- p :- a.  p :- b.  p :- c.
abbrev clause : List ℕ → Clause
clause body = record { head = atom (112 ∷ []); body = atom body; variables = 0 }

abbrev c1 : Clause
c1 = clause (97 ∷ [])

abbrev c2 : Clause
c2 = clause (98 ∷ [])

abbrev c3 : Clause
c3 = clause (99 ∷ [])

-- one batch at 0, and one at 4 that erases a clause and puts one in front
abbrev first : Kept
first = fold keep nothing (stamped 0 0 (Declare p ∷ Last c1 ∷ Last c2 ∷ []))

abbrev both : Kept
both = fold keep first (stamped 4 0 (Erase (named 0 1) ∷ First c3 ∷ []))

-- before the second batch both first clauses are there, whatever came later
pub before_second : names_of (walk 4 p both.records) ≡ named 0 1 ∷ named 0 2 ∷ []
unfolding walk
before_second = refl

pub after_second : names_of (walk 5 p both.records) ≡ named 4 1 ∷ named 0 2 ∷ []
unfolding walk
after_second = refl

pub clauses_after : clauses_of (walk 5 p both.records) ≡ c3 ∷ c2 ∷ []
unfolding walk
clauses_after = refl

pub before_any : names_of (walk 0 p both.records) ≡ []
unfolding walk
before_any = refl

pub erased : here 5 (named 0 1) both ≡ false
erased = refl

pub not_yet_erased : here 4 (named 0 1) both ≡ true
not_yet_erased = refl

-- an erased clause is still known by its name
pub still_known : clause_of (named 0 1) both ≡ Some c1
still_known = refl

pub never_made : clause_of (named 0 0) both ≡ None
never_made = refl

-- the first erasure counts: a second one, later, moves nothing
pub twice : here 5 (named 0 1) (fold keep both (stamped 7 0 (Erase (named 0 1) ∷ []))) ≡ false
twice = refl

-- p is there from its declaration on, and p/1 never
pub there : is_there 1 p both ≡ true
there = refl

pub not_there_yet : is_there 0 p both ≡ false
not_there_yet = refl

pub never_there : is_there 9 q both ≡ false
never_there = refl

-- from one name to the next
pub starts : next_of Start (names_of (walk 5 p both.records)) ≡ Some (named 4 1)
unfolding walk
starts = refl

pub goes_on : next_of (After (named 4 1)) (names_of (walk 5 p both.records)) ≡ Some (named 0 2)
unfolding walk
goes_on = refl

pub ends : next_of (After (named 0 2)) (names_of (walk 5 p both.records)) ≡ None
unfolding walk
ends = refl

pub not_in_it : next_of (After (named 0 1)) (names_of (walk 5 p both.records)) ≡ None
unfolding walk
not_in_it = refl

-- p(1).  p(X).  p(2).  p(f(1)).
abbrev fact : Tree → ℕ → Clause
fact t n = record { head = compound (112 ∷ []) (more t none); body = atom (116 ∷ 114 ∷ 117 ∷ 101 ∷ []); variables = n }

abbrev four : Kept
four = fold keep nothing (stamped 0 0 (Declare q ∷ Last (fact (int (pos 1)) 0) ∷ Last (fact (var 0) 1) ∷ Last (fact (int (pos 2)) 0) ∷ Last (fact (compound (102 ∷ []) (more (int (pos 1)) none)) 0) ∷ []))

-- those that may be for p(2): the variable, and then the 2
pub like_two : next_like_of (Int (pos 2)) Start (walk 1 q four.records) ≡ Some (named 0 2)
unfolding walk
like_two = refl

pub like_two_next : next_like_of (Int (pos 2)) (After (named 0 2)) (walk 1 q four.records) ≡ Some (named 0 3)
unfolding walk
like_two_next = refl

pub like_two_last : next_like_of (Int (pos 2)) (After (named 0 3)) (walk 1 q four.records) ≡ None
unfolding walk
like_two_last = refl

-- a cursor may stand at one that does not fit
pub like_two_from_one : next_like_of (Int (pos 2)) (After (named 0 1)) (walk 1 q four.records) ≡ Some (named 0 2)
unfolding walk
like_two_from_one = refl

pub like_functor : next_like_of (Functor (102 ∷ []) 1) (After (named 0 2)) (walk 1 q four.records) ≡ Some (named 0 4)
unfolding walk
like_functor = refl

pub like_other_arity : next_like_of (Functor (102 ∷ []) 2) (After (named 0 2)) (walk 1 q four.records) ≡ None
unfolding walk
like_other_arity = refl

pub like_any : next_like_of Any Start (walk 1 q four.records) ≡ Some (named 0 1)
unfolding walk
like_any = refl

-- queries: an erased clause is told before its erasure, and not after it
pub query_next : found_in 5 (Query.NextLike p Any Start) both ≡ Found.Next (Some (named 4 1))
unfolding walk
query_next = refl

pub query_before : found_in 4 (Query.Clause (named 0 1)) both ≡ Found.Clause (Some c1)
query_before = refl

pub query_erased : found_in 5 (Query.Clause (named 0 1)) both ≡ Found.Clause None
query_erased = refl

-- the next clause by name alone, from the start, behind one, and behind the last
pub query_first : found_in 5 (Query.Next p Start) both ≡ Found.Next (Some (named 4 1))
unfolding walk
query_first = refl

pub query_behind : found_in 5 (Query.Next p (After (named 4 1))) both ≡ Found.Next (Some (named 0 2))
unfolding walk
query_behind = refl

pub query_last : found_in 5 (Query.Next p (After (named 0 2))) both ≡ Found.Next None
unfolding walk
query_last = refl

-- no clause is passed over by its first argument: behind p(X) comes p(2)
pub query_by_name : found_in 1 (Query.Next q (After (named 0 2))) four ≡ Found.Next (Some (named 0 3))
unfolding walk
query_by_name = refl

-- what is alive is told as of its time
pub query_alive : found_in 4 (Query.Alive (named 0 1)) both ≡ Found.Alive true
query_alive = refl

pub query_not_alive : found_in 5 (Query.Alive (named 0 1)) both ≡ Found.Alive false
query_not_alive = refl

pub query_not_made : found_in 4 (Query.Alive (named 4 1)) both ≡ Found.Alive false
query_not_made = refl

pub query_there : found_in 1 (Query.Exists p) both ≡ Found.Exists true
query_there = refl

-- taken back: before the second batch the erased clause is there again, and the one in front is gone
pub taken_back : names_of (walk 9 p (cut 4 both).records) ≡ named 0 1 ∷ named 0 2 ∷ []
unfolding walk
taken_back = refl

pub taken_back_whole : cut 4 both ≡ first
taken_back_whole = refl

pub not_taken_back : cut 5 both ≡ both
not_taken_back = refl

pub all_taken_back : cut 0 both ≡ nothing
all_taken_back = refl

-- an erasure that is taken back does not bring back one that was erased before
pub erased_earlier : here 9 (named 0 1) (cut 7 (fold keep both (stamped 7 0 (Erase (named 0 1) ∷ Erase (named 0 2) ∷ [])))) ≡ false
erased_earlier = refl

pub erased_later : here 9 (named 0 2) (cut 7 (fold keep both (stamped 7 0 (Erase (named 0 1) ∷ Erase (named 0 2) ∷ [])))) ≡ true
erased_later = refl
