-- A thread's search, as its journal sees it: what it asks after some answers.
use Rattle.std.specs.Prelude.{ℕ, List, Option, Some, None}
use Rattle.plevent.specs.declared.request.ThreadEnd.{ThreadEnd}
use Rattle.plevent.specs.declared.request.Request.{Request}
use Rattle.plevent.specs.declared.request.Reply.{Reply}
use Rattle.plevent.specs.Alive.{Stamped}

-- what a search asks: the database as it is now, or a request
pub data Item : Type 0 where
  View : Item
  Ask : Request → Item

-- what it is answered: the updates of the batches below a place of the journal, or a reply
pub data Answer : Type 0 where
  Seen : ℕ → List Stamped → Answer
  Got : Reply → Answer

-- where it stands once its answers are used up: it asks, it has ended, or it goes no further
pub data Next : Type 0 where
  Wants : Item → Next
  Finishes : ThreadEnd → Next
  Ceases : Next

-- where it stands, the steps taken, and the bytes written
pub record Ending : Type 0 where
  pub next : Next
  pub used : ℕ
  pub out : List ℕ

-- by a limit of steps and the answers
abbrev pub Search : Type 0
Search = ℕ → List Answer → Ending

-- an end asks to be told, unless it is that of the run, which was asked for
abbrev pub item_of_end : ThreadEnd → Option Item
item_of_end ThreadEnd.True = Some (Ask (Request.Finish ThreadEnd.True))
item_of_end ThreadEnd.False = Some (Ask (Request.Finish ThreadEnd.False))
item_of_end (ThreadEnd.Exception b) = Some (Ask (Request.Finish (ThreadEnd.Exception b)))
item_of_end ThreadEnd.Budget = Some (Ask (Request.Finish ThreadEnd.Budget))
item_of_end (ThreadEnd.Halt n) = None

abbrev pub item_of : Next → Option Item
item_of (Wants q) = Some q
item_of (Finishes e) = item_of_end e
item_of Ceases = None
