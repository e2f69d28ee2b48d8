-- A thread that was started, between two turns.
use Rattle.std.specs.Prelude.{◌≡◌, ℕ, ◌≤◌, List, [], ◌∷◌, ◌++◌, length, map, Some, None, find}
use Rattle.plevent.specs.declared.update.Update.{Update}
use Rattle.plevent.specs.declared.request.ThreadEnd.{ThreadEnd}
use Rattle.plevent.specs.declared.act.Act.{Act}
use Rattle.plevent.specs.declared.act.Entry.{Entry}
use Rattle.plevent.specs.declared.standing.Thread.{Thread}
use Rattle.plevent.specs.declared.standing.Standing.{Standing}
use Rattle.plevent.specs.Alive.{before}
use Rattle.plevent.specs.Reading.{reading, is_thread}
use Rattle.plevent.specs.Search.{Answer, Finishes, Search}
use Rattle.plhist.specs.Follows.{own, Taken, takes, from_start, asks_of, HasAsked}
use Rattle.plhist.specs.Legal.{Legal, ByOneWorker, Over}
use Rattle.plstore.specs.Looking.{Views}
use Rattle.plviews.specs.Views.{AreOrdered}
use Rattle.plsearch.specs.Halts.{AreCommon}

-- worker 1 started it, it has not ended, and no thread has ended the run
pub record Free (t : ℕ) (r : Standing) : Type 0 where
  pub row : Thread
  pub found : find (is_thread t) r.threads ≡ Some row
  pub started : row.worker ≡ Some 1
  pub lives : row.ended ≡ None
  pub goes : r.halted ≡ None

-- the views of a journal
abbrev pub views_of : List Entry → Views
views_of h g = before g (reading h).updates

-- views that are those of a journal as far as it goes, with the batches of each in order
pub record AreViews (h : List Entry) (v : Views) : Type 0 where
  pub as_far : (g : ℕ) → g ≤ length h → v g ≡ views_of h g
  pub ordered : AreOrdered v

-- The items at its places came to a state, whatever the limit of steps. With the answers of this state its search is
-- what its solver stands for, where the views are those of the journal.
pub record Going (search : Search) (limit : ℕ) (rest : Views → Search) (used : ℕ) (h : List Entry) (t : ℕ) (places : List ℕ) : Type 0 where
  pub start : ℕ
  pub state : Taken
  pub common : AreCommon state.answers
  pub owns : own t h ≡ (start, Act.Start) ∷ state.made
  pub items : (n : ℕ) → used ≤ n → takes (asks_of search n) h t places (from_start start) ≡ Some state
  pub rests : (v : Views) → AreViews h v → (n : ℕ) (answers : List Answer) → used ≤ n → search n (state.answers ++ answers) ≡ rest v n answers
  pub within : used ≤ limit
  pub low : state.low ≤ length h
  pub free : Free t (reading h).standing

-- the journal is legal, and all its later entries are worker 1's
pub record IsSound (first : List Update) (h : List Entry) : Type 0 where
  pub legal : Legal first h
  pub workers : ByOneWorker h

-- the run is over, and this was its only thread
pub record IsClosed (h : List Entry) (t : ℕ) : Type 0 where
  pub over : Over h
  pub each : t ∷ [] ≡ map (λ x. x.number) (reading h).standing.threads

-- it goes on
pub record IsRunning (first : List Update) (search : Search) (limit : ℕ) (rest : Views → Search) (used : ℕ) (h : List Entry) (t : ℕ) (places : List ℕ) : Type 0 where
  pub sound : IsSound first h
  pub going : Going search limit rest used h t places

-- it has ended the run with the number n, and its search ends so without a further answer
pub record IsHalted (first : List Update) (search : Search) (limit : ℕ) (rest : Views → Search) (used : ℕ) (h : List Entry) (t : ℕ) (places : List ℕ) (n : ℕ) : Type 0 where
  pub sound : IsSound first h
  pub closed : IsClosed h t
  pub asked : HasAsked search limit h t places (ThreadEnd.Halt n)
  pub rests : search limit asked.last.answers ≡ rest (views_of h) limit []
  pub ends : (rest (views_of h) limit []).next ≡ Finishes (ThreadEnd.Halt n)
  pub within : used ≤ limit

pub data IsStarted (first : List Update) (search : Search) (limit : ℕ) (rest : Views → Search) (used : ℕ) (h : List Entry) (t : ℕ) (places : List ℕ) : Type 0 where
  Runs : IsRunning first search limit rest used h t places → IsStarted first search limit rest used h t places
  Halts : (n : ℕ) → IsHalted first search limit rest used h t places n → IsStarted first search limit rest used h t places
