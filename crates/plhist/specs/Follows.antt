-- A thread's run follows its search: its items were answered as the journal answers them at their
-- places, and the acts of these items are all the entries that the thread has.
use Rattle.std.specs.Prelude.{◌≡◌, ℕ, suc, Bool, true, false, List, [], ◌∷◌, ◌++◌, take, length, Option, Some, None, option_and_then, nat_eq, nat_lt}
use Rattle.plevent.specs.declared.request.ThreadEnd.{ThreadEnd}
use Rattle.plevent.specs.declared.request.Request.{Request}
use Rattle.plevent.specs.declared.request.Reply.{Reply}
use Rattle.plevent.specs.declared.act.Act.{Act}
use Rattle.plevent.specs.declared.act.Entry.{Entry}
use Rattle.plevent.specs.Reading.{reading}
use Rattle.plevent.specs.Rows.{Row, served}
use Rattle.plevent.specs.Search.{Item, View, Ask, Answer, Seen, Got, Next, Finishes, Search, item_of}
use Rattle.plhist.specs.declared.history.Run.{Run}
use Rattle.plhist.specs.declared.history.RunEnd.{RunEnd}

-- the entries of a thread, each with its place, from place i on
abbrev pub own_if : Bool → ℕ → Act → List (ℕ × Act) → List (ℕ × Act)
own_if true i a rest = (i, a) ∷ rest
own_if false i a rest = rest

abbrev pub own_from : ℕ → ℕ → List Entry → List (ℕ × Act)
own_from i t [] = []
own_from i t (e ∷ es) = own_if (nat_eq e.thread t) i e.act (own_from (suc i) t es)

-- the entries of thread t, each with its place
unfoldable pub own : ℕ → List Entry → List (ℕ × Act)
own t h = own_from 0 t h

-- what a thread's items came to
pub record Taken : Type 0 where
  -- their answers
  pub answers : List Answer
  -- the least place that the next item may have
  pub low : ℕ
  -- the entries that they make, each with its place
  pub made : List (ℕ × Act)

-- NotYet answers nothing
abbrev pub is_not_yet : Reply → Bool
is_not_yet (Reply.Started n a g) = false
is_not_yet Reply.RunOver = false
is_not_yet Reply.Stopped = false
is_not_yet (Reply.NotYet q) = true
is_not_yet Reply.Published = false
is_not_yet Reply.Erased = false
is_not_yet Reply.Gone = false
is_not_yet Reply.Done = false
is_not_yet Reply.Shut = false

-- a reply at place g; where it comes with an act, the next item's place is above it
abbrev pub noted : Bool → ℕ → Taken → Reply → Option (ℕ × Act) → Option Taken
noted true g s q a = None
noted false g s q None = Some (record { answers = s.answers ++ Got q ∷ []; low = g; made = s.made })
noted false g s q (Some a) = Some (record { answers = s.answers ++ Got q ∷ []; low = suc g; made = s.made ++ (g, a.1) ∷ [] })

abbrev pub replied : Row → ℕ → Taken → Option Taken
replied row g s = noted (is_not_yet row.0) g s row.0 row.1

abbrev pub guarded : {A : Type 0} → Bool → Option A → Option A
guarded true a = a
guarded false a = None

abbrev pub not_below : ℕ → ℕ → Bool
not_below low g = nat_lt low (suc g)

-- the answer of the first g entries: a view sees their updates, a request has its row
abbrev pub answered : List Entry → ℕ → Item → ℕ → Taken → Option Taken
answered h t View g s = Some (record { answers = s.answers ++ Seen g (reading (take g h)).updates ∷ []; low = g; made = s.made })
answered h t (Ask q) g s = replied (served q t (reading (take g h))) g s

-- an item of thread t is answered at place g, in the journal and not below the places before
unfoldable pub answer_at : List Entry → ℕ → Item → ℕ → Taken → Option Taken
answer_at h t q g s = guarded (not_below g (length h)) (guarded (not_below s.low g) (answered h t q g s))

abbrev pub item_at : List Entry → ℕ → Option Item → ℕ → Taken → Option Taken
item_at h t None g s = None
item_at h t (Some q) g s = answer_at h t q g s

-- items are answered at the places, in order, each as it is asked after the answers before
unfoldable pub takes : (List Answer → Next) → List Entry → ℕ → List ℕ → Taken → Option Taken
takes asks h t [] s = Some s
takes asks h t (g ∷ gs) s = option_and_then (λ s. takes asks h t gs s) (item_at h t (item_of (asks s.answers)) g s)

-- a thread that was started at place k
abbrev pub from_start : ℕ → Taken
from_start k = record { answers = []; low = suc k; made = [] }

-- what a search asks next, at a limit of steps
abbrev pub asks_of : Search → ℕ → List Answer → Next
asks_of search n answers = (search n answers).next

-- the last request of a thread that comes to this end: it tells of the end, or it has ended the run
abbrev pub last_of : ThreadEnd → Request
last_of (ThreadEnd.Halt n) = Request.HaltRun n
last_of e = Request.Finish e

-- The items of thread t were answered at the places, in order, the last of them, which is the last request of this end, Done;
-- and what they make are all the entries of the thread.
pub record HasAsked (search : Search) (limit : ℕ) (h : List Entry) (t : ℕ) (places : List ℕ) (e : ThreadEnd) : Type 0 where
  -- the places of the items before the last, and that of the last
  pub earlier : List ℕ
  pub final : ℕ
  pub split : places ≡ earlier ++ final ∷ []
  pub start : ℕ
  pub before : Taken
  pub items : takes (asks_of search limit) h t earlier (from_start start) ≡ Some before
  pub asks : item_of (asks_of search limit before.answers) ≡ Some (Ask (last_of e))
  pub last : Taken
  pub finished : answer_at h t (Ask (last_of e)) final before ≡ Some last
  pub told : last.answers ≡ before.answers ++ Got Reply.Done ∷ []
  -- the start, and then what the items make
  pub entries : own t h ≡ (start, Act.Start) ∷ last.made

-- the thread came to this end: its last item is answered, and with all answers its search has ended so
pub record HasEnded (search : Search) (limit : ℕ) (h : List Entry) (run : Run) (e : ThreadEnd) : Type 0 where
  pub asked : HasAsked search limit h run.thread run.places e
  pub ends : search limit asked.last.answers ≡ record { next = Finishes e; used = run.steps; out = run.output }

abbrev pub FollowsAs : Search → ℕ → List Entry → Run → RunEnd → Type 0
FollowsAs search limit h run (RunEnd.Ended e) = HasEnded search limit h run e

-- a run follows a search with this limit of steps
abbrev pub Follows : Search → ℕ → List Entry → Run → Type 0
Follows search limit h run = FollowsAs search limit h run run.«end»
