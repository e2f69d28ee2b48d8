-- The values that the search is about.
use Rattle.std.specs.Prelude.{ℕ, List, Option}
use Rattle.plterm.specs.Tree.{Tree}
use Rattle.plevent.specs.Search.{Item, Answer}
use Rattle.plevent.specs.declared.request.Request.{Request}
use Rattle.plevent.specs.declared.update.ClauseName.{ClauseName}
use Rattle.plevent.specs.declared.update.Update.{Update}
use Rattle.plevent.specs.Alive.{Stamped}
use Rattle.pltx.specs.Own.{State}
use Rattle.pltx.specs.declared.level.Isolation.{Isolation}
use Rattle.plprogram.specs.declared.settings.Settings.{Settings}

-- how a visit ends: its list is done; it has no further solution; the choices down to a level are given up; a ball is thrown,
-- with the levels of the markers behind it; the run is ended with a number; no step is left; no answer is left for what is asked;
-- the run has stopped; an answer does not fit what was asked
pub data Result : Type 0 where
  Stop : Result
  Fail : Result
  CutTo : ℕ → Result
  Throw : Tree → List ℕ → Result
  Halted : ℕ → Result
  Spent : Result
  Awaits : Item → Result
  Stopped : Result
  Unfit : Result

-- what a marker is for: Commit, behind which the choices down to its level are given up, Never, where they are given up and the list
-- fails, Until, up to which the handler of its level is active, Collect, where a copy of a term is kept and the list fails, and
-- Transact, where what is open ends with success, behind which the choices down to a level are given up
pub data Kind : Type 0 where
  Commit : Kind
  Never : Kind
  Until : Kind
  Collect : Tree → Kind
  Transact : ℕ → Kind

-- what follows once a request is done: the list goes on, or the run is ended with a number
pub data Then : Type 0 where
  GoesOn : Then
  Ends : ℕ → Then

-- what clauses are looked up for: to call a goal; to tell those of a head and a body; to erase these, one at a time; or to erase all of
-- a head
pub data Lookup : Type 0 where
  ToCall : Tree → Lookup
  ToRetrieve : Tree → Tree → Lookup
  ToRetract : Tree → Tree → Lookup
  ToRetractAll : Tree → Lookup

-- what a list asks: the view in which clauses are looked up, that on which a transaction or a snapshot of a goal begins, a request, or
-- that a clause is erased
pub data Question : Type 0 where
  Look : Lookup → Question
  Begin : Isolation → Tree → Question
  Await : Request → Then → Question
  Erase : ClauseName → Question

-- what a goal list holds: goals, each with its cut level; markers, each with the level of the case that put it;
-- a ball that is thrown here; and what is asked here
pub data Element : Type 0 where
  Goal : ℕ → Tree → Element
  Marker : Kind → ℕ → Element
  Raise : Tree → Element
  Asking : Question → Element

-- what is left to do: a goal list, its terms with all that stands for their variables put in, and how many variables are in use
pub record Resolvent : Type 0 where
  pub goals : List Element
  pub variables : ℕ

-- what an open case does besides choosing and marking: a catcher and its recovery, the term that is the list of the copies kept, or
-- Undo, where what is open ends without success
pub data Handler : Type 0 where
  Catch : Tree → Tree → Handler
  Gather : Tree → Handler
  Undo : Handler

-- an open case, outside of the list that is visited now: the places still to try, a mark, behind which Fail is a cut to its level, or a
-- handler, with the place behind the goal that it is for. The level of a case is the number of cases that are open outside of it
pub data Case : Type 0 where
  Choice : List Resolvent → Case
  Mark : ℕ → Case
  Handle : Handler → Resolvent → Case

-- a copy of a term, its variables numbered from 0, and the level of the handler that it is kept for
pub record Kept : Type 0 where
  pub level : ℕ
  pub copy : Tree

-- a thread: its number, and its alias if it has one
pub record Who : Type 0 where
  pub number : ℕ
  pub alias : Option (List ℕ)

-- what a thread has besides its steps and answers: which it is, its output, its operators and flags, the copies that are kept, the latest
-- last, and the own updates of its open transactions
pub record Local : Type 0 where
  pub who : Who
  pub out : List ℕ
  pub settings : Settings
  pub kept : List Kept
  pub own : State

-- what a row of the table says: the result, or cases to open, the innermost first, and the list to visit in them
pub data Move : Type 0 where
  Give : Result → Local → Move
  Go : List Case → Resolvent → Local → Move

-- what an element at the head of a list is: a goal, which takes a step; an item, which takes an answer;
-- an end; or nothing but a mark on the rest, behind which updates are published
pub data Meeting : Type 0 where
  Select : ℕ → Tree → Meeting
  Asks : Item → Meeting
  End : Result → Local → Meeting
  Pass : Local → Meeting
  Marked : ℕ → List Update → Local → Meeting

-- what a handler makes of a result: another, or a list to visit in its place, at a cut level of its own or not
pub data Return : Type 0 where
  Keep : Result → Local → Return
  Again : Resolvent → Local → Return
  Anew : Resolvent → Local → Return

-- the steps and the answers that are left, the updates of the batches on which what is open began, and the rest
pub record Supply : Type 0 where
  pub steps : ℕ
  pub answers : List Answer
  pub below : List Stamped
  pub local : Local
