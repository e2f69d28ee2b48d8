-- Own updates, computed.
use Rattle.std.specs.Prelude.{◌≡◌, ℕ, true, false, List, [], ◌∷◌, ◌++◌, pos, Some, None, refl}
use Rattle.plterm.specs.Tree.{int, atom, compound, none, more}
use Rattle.plterm.specs.declared.indicator.Indicator.{Indicator}
use Rattle.plclause.specs.Clause.{Clause}
use Rattle.plevent.specs.declared.key.Key.TheVariants.{Any, Int}
use Rattle.plevent.specs.declared.update.Update.{Update}
use Rattle.plevent.specs.declared.update.Update.TheVariants.{First, Last, Erase, EraseOwn}
use Rattle.plevent.specs.Alive.{Stamped, exists, named, names_of, living, stamped, view, before}
use Rattle.plstore.specs.Like.{next_like_of}
use Rattle.pltx.specs.declared.level.Ended.{Ended}
use Rattle.pltx.specs.declared.level.Isolation.TheVariants.{Transaction, Snapshot}
use Rattle.pltx.specs.declared.own.OwnCursor.{OwnCursor}
use Rattle.pltx.specs.declared.target.Target.TheVariants.{Committed, Own}
use Rattle.pltx.specs.Own.{State, added, begun, ended, ending, erased, erased_in, nothing}
use Rattle.pltx.specs.Walks.{cursor_at, own_batch}

abbrev q : Indicator
q = record { name = 113 ∷ []; arity = 1 }

abbrev p : Indicator
p = record { name = 112 ∷ []; arity = 1 }

-- p(N).
abbrev fact : ℕ → Clause
fact n = record { head = compound (112 ∷ []) (more (int (pos n)) none); body = atom (116 ∷ 114 ∷ 117 ∷ 101 ∷ []); variables = 0 }

-- a transaction at 9: p(1) and p(2) are put in front, and p(4) behind
abbrev three : State
three = added (Last (fact 4)) (added (First (fact 2)) (added (First (fact 1)) (begun Transaction 9 nothing)))

abbrev own : List Update
own = three.updates

-- the last one in front comes first
pub in_order : names_of (living (own_batch 9 3 own) p) ≡ named 9 1 ∷ named 9 0 ∷ named 9 2 ∷ []
unfolding living
in_order = refl

pub first_two : names_of (living (own_batch 9 2 own) p) ≡ named 9 1 ∷ named 9 0 ∷ []
unfolding living
first_two = refl

pub none_yet : names_of (living (own_batch 9 0 own) p) ≡ []
unfolding living
none_yet = refl

pub starts : next_like_of Any (cursor_at 9 OwnCursor.Start) (living (own_batch 9 3 own) p) ≡ Some (named 9 1)
unfolding living
starts = refl

pub goes_on : next_like_of Any (cursor_at 9 (OwnCursor.After 0)) (living (own_batch 9 3 own) p) ≡ Some (named 9 2)
unfolding living
goes_on = refl

pub ends : next_like_of Any (cursor_at 9 (OwnCursor.After 2)) (living (own_batch 9 3 own) p) ≡ None
unfolding living
ends = refl

-- by a key, one that cannot fit is passed over
pub by_key : next_like_of (Int (pos 4)) (cursor_at 9 OwnCursor.Start) (living (own_batch 9 3 own) p) ≡ Some (named 9 2)
unfolding living
by_key = refl

pub there : exists (own_batch 9 1 own) p ≡ true
unfolding exists
there = refl

pub not_there : exists (own_batch 9 3 own) q ≡ false
unfolding exists
not_there = refl

-- on top of a journal that has p(3) at (2, 0)
abbrev journal : List Stamped
journal = stamped 2 0 (Last (fact 3) ∷ [])

pub in_view : names_of (living (view journal 9 own 3) p) ≡ named 9 1 ∷ named 9 0 ∷ named 2 0 ∷ named 9 2 ∷ []
unfolding living before
in_view = refl

pub hidden_in_view : names_of (living (view journal 9 (own ++ Erase (named 2 0) ∷ EraseOwn 0 ∷ []) 5) p) ≡ named 9 1 ∷ named 9 2 ∷ []
unfolding living before
hidden_in_view = refl

-- an inner transaction: its base does not count
abbrev inner : State
inner = begun Transaction 12 three

pub same_base : inner.base ≡ 9
same_base = refl

-- it erases p(2), and again
abbrev one_gone : State
one_gone = erased (Own 1) inner

pub gone : names_of (living (own_batch 9 4 one_gone.updates) p) ≡ named 9 0 ∷ named 9 2 ∷ []
unfolding living
gone = refl

pub not_before : erased_in (Own 1) inner.updates ≡ false
not_before = refl

pub gone_already : erased_in (Own 1) one_gone.updates ≡ true
gone_already = refl

pub unchanged : erased (Own 1) one_gone ≡ one_gone
unchanged = refl

-- where it fails, the erasure is cut off; where it succeeds, it stays
pub failed : ended false one_gone ≡ three
failed = refl

pub is_dropped : ending false one_gone ≡ Ended.Dropped
is_dropped = refl

pub succeeded : (ended true one_gone).updates ≡ own ++ EraseOwn 1 ∷ []
succeeded = refl

pub is_merged : ending true one_gone ≡ Ended.Merged
is_merged = refl

-- what a snapshot changes never stays
abbrev tried : State
tried = erased (Committed (named 2 0)) (begun Snapshot 12 three)

pub snapshot : ended true tried ≡ three
snapshot = refl

pub snapshot_dropped : ending true tried ≡ Ended.Dropped
snapshot_dropped = refl

-- the end of the outermost one
pub publishes : ending true three ≡ Ended.Publish (First (fact 1) ∷ First (fact 2) ∷ Last (fact 4) ∷ [])
publishes = refl

pub drops : ending false three ≡ Ended.Dropped
drops = refl

pub publishes_nothing : ending true (begun Transaction 9 nothing) ≡ Ended.Nothing
publishes_nothing = refl

pub snapshot_alone : ending true (added (First (fact 1)) (begun Snapshot 9 nothing)) ≡ Ended.Dropped
snapshot_alone = refl

pub nothing_left : ended true three ≡ nothing
nothing_left = refl

pub nothing_left_either : ended false three ≡ nothing
nothing_left_either = refl
