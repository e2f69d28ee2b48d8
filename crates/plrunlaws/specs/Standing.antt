-- Where a run that follows its thread's search stands in the journal, at each turn of the machine that does the search.
use Rattle.std.specs.Prelude.{◌≡◌, ℕ, suc, ◌<◌, ◌≤◌, Bool, List, [], ◌∷◌, ◌++◌, Some, None}
use Rattle.std.specs.List.{All}
use Rattle.plevent.specs.declared.request.ThreadEnd.{ThreadEnd}
use Rattle.plevent.specs.declared.act.Act.{Act}
use Rattle.plevent.specs.declared.act.Entry.{Entry}
use Rattle.plevent.specs.Search.{Item, Answer, Next}
use Rattle.plhist.specs.declared.history.Run.{Run}
use Rattle.plhist.specs.declared.history.RunEnd.{RunEnd}
use Rattle.plhist.specs.Follows.{own, Taken, answer_at, takes, from_start, asks_of, HasEnded, Follows}
use Rattle.pltx.specs.Own.{any_open}
use Rattle.plprogram.specs.Program.{Program}
use Rattle.plsearch.specs.Search.{Start, search_of}
use Rattle.plsearch.specs.Machines.Machine.{Machine}
use Rattle.pltransactions.specs.Laws.{turns, machine_of, wanted}

-- a run that follows the search from a start to its end, in a journal
pub record Followed : Type 0 where
  pub program : Program
  pub starts : Start
  pub limit : ℕ
  pub journal : List Entry
  pub run : Run
  pub came_to : ThreadEnd
  pub ended : HasEnded (search_of program starts limit) limit journal run came_to

-- each run that follows such a search is one, if it came to an end of its own
abbrev pub FollowsToItsEnd : Type 0
FollowsToItsEnd = (P : Program) (s : Start) (limit : ℕ) (h : List Entry) (run : Run) (e : ThreadEnd) → Follows (search_of P s limit) limit h run → run.«end» ≡ RunEnd.Ended e →
    (f : Followed) × (f.program ≡ P) × (f.starts ≡ s) × (f.limit ≡ limit) × (f.journal ≡ h) × (f.run ≡ run) × (f.came_to ≡ e)

-- what it asks after some answers, and all answers that it got
abbrev pub asks : Followed → List Answer → Next
asks f = asks_of (search_of f.program f.starts f.limit) f.limit

abbrev pub answers : Followed → List Answer
answers f = f.ended.asked.last.answers

-- the machine of the search with these answers, after so many turns
abbrev pub at_turn : Followed → ℕ → Machine
at_turn f k = turns f.program k (machine_of f.program f.starts f.limit (answers f))

-- a transaction or a snapshot is open there
abbrev pub is_open : Followed → ℕ → Bool
is_open f k = any_open (at_turn f k).run.local.own

-- an item of its thread is answered at a place of the journal, where items came to s, and they then come to s'
abbrev pub IsAnswered : Followed → Item → ℕ → Taken → Taken → Type 0
IsAnswered f q g s s' = answer_at f.journal f.run.thread q g s ≡ Some s'

-- the place of its start, and its start with some entries behind
abbrev pub start_of : Followed → ℕ
start_of f = f.ended.asked.start

abbrev pub started : Followed → List (ℕ × Act) → List (ℕ × Act)
started f made = (start_of f, Act.Start) ∷ made

-- Where it stands at turn k: its items so far, whose answers the machine has taken by then, came to s.
pub record StandsAt (f : Followed) (k : ℕ) (s : Taken) : Type 0 where
  -- the places of its items so far, and of those that are asked later
  pub earlier : List ℕ
  pub later : List ℕ
  pub split : f.run.places ≡ earlier ++ later
  pub so_far : takes (asks f) f.journal f.run.thread earlier (from_start (start_of f)) ≡ Some s
  pub rest : takes (asks f) f.journal f.run.thread later s ≡ Some f.ended.asked.last
  pub taken : answers f ≡ s.answers ++ (at_turn f k).run.answers

-- at each turn it stands somewhere
abbrev pub StandsSomewhere : Type 0
StandsSomewhere = (f : Followed) (k : ℕ) → (s : Taken) × StandsAt f k s

-- and nowhere else
abbrev pub StandsOnce : Type 0
StandsOnce = (f : Followed) (k : ℕ) (s s' : Taken) → StandsAt f k s → StandsAt f k s' → s ≡ s'

-- what a turn asks is answered at a place, with the next of the answers
abbrev pub AsksInTurn : Type 0
AsksInTurn = (f : Followed) (k : ℕ) (s : Taken) (q : Item) → StandsAt f k s → wanted (at_turn f k) ≡ Some q →
    (g : ℕ) × (s' : Taken) × IsAnswered f q g s s' × StandsAt f (suc k) s'

-- a turn that asks nothing leaves it where it stands
abbrev pub StaysElse : Type 0
StaysElse = (f : Followed) (k : ℕ) (s : Taken) → StandsAt f k s → wanted (at_turn f k) ≡ None → StandsAt f (suc k) s

-- entries below a place, and from a place on
abbrev pub AreBelow : ℕ → List (ℕ × Act) → Type 0
AreBelow g xs = All (λ x. x.0 < g) xs

abbrev pub AreFrom : ℕ → List (ℕ × Act) → Type 0
AreFrom g xs = All (λ x. g ≤ x.0) xs

-- The entries of the thread are its start, those that its items made so far, and those of the items that are asked later; and these stand
-- behind the others.
pub record EntriesPart (f : Followed) (s : Taken) : Type 0 where
  pub later : List (ℕ × Act)
  pub entries : own f.run.thread f.journal ≡ started f s.made ++ later
  pub below : AreBelow s.low (started f s.made)
  pub from : AreFrom s.low later

abbrev pub EntriesInOrder : Type 0
EntriesInOrder = (f : Followed) (k : ℕ) (s : Taken) → StandsAt f k s → EntriesPart f s

-- the entry that tells of an end
abbrev pub act_of : ThreadEnd → Act
act_of (ThreadEnd.Halt n) = Act.Halt n
act_of e = Act.End e

-- the last of them tells of its end, at the last of the places
abbrev pub EndsWithItsEnd : Type 0
EndsWithItsEnd = (f : Followed) → own f.run.thread f.journal ≡ started f f.ended.asked.before.made ++ (f.ended.asked.final, act_of f.came_to) ∷ []

-- and no other of them tells of an end
abbrev pub IsNoEnd : Act → Type 0
IsNoEnd (Act.End e) = ⊥
IsNoEnd (Act.Halt n) = ⊥
IsNoEnd a = Unit {0}

abbrev pub EndsOnce : Type 0
EndsOnce = (f : Followed) → All (λ x. IsNoEnd x.1) (started f f.ended.asked.before.made)
