-- The table of requests: for each its reply and its act, in one row.
use Rattle.std.specs.Prelude.{ℕ, Bool, true, false, ◌||◌, ◌&&◌, not, List, [], ◌∷◌, find, Option, Some, None}
use Rattle.std.specs.Option.{is_some}
use Rattle.std.specs.List.{list_any}
use Rattle.plevent.specs.declared.request.ThreadEnd.{ThreadEnd}
use Rattle.plevent.specs.declared.request.Request.{Request}
use Rattle.plevent.specs.declared.request.Reply.{Reply}
use Rattle.plevent.specs.declared.act.Act.{Act}
use Rattle.plevent.specs.declared.act.Entry.{Entry}
use Rattle.plevent.specs.declared.standing.Thread.{Thread}
use Rattle.plevent.specs.declared.standing.Standing.{Standing}
use Rattle.plevent.specs.declared.update.ClauseName.{ClauseName}
use Rattle.plevent.specs.declared.update.Update.TheVariants.{Erase}
use Rattle.plevent.specs.Alive.{change_if, is_alive}
use Rattle.plevent.specs.Reading.{Reading, reading, is_thread}

-- the reply, and the act, if any, with the thread that its entry names
abbrev pub Row : Type 0
Row = Reply × Option (ℕ × Act)

-- each thread was started, and has ended
abbrev pub is_settled : Thread → Bool
is_settled t = is_some t.worker && is_some t.ended

-- a thread has ended the run
abbrev pub is_halted : Standing → Bool
is_halted r = is_some r.halted

-- a thread has ended the run, or each was started and has ended
abbrev pub is_over : Standing → Bool
is_over r = is_halted r || not (list_any (λ t. not (is_settled t)) r.threads)

abbrev pub is_new : Thread → Bool
is_new t = not (is_some t.worker)

-- thread t is started, and has not ended
abbrev pub runs : ℕ → Standing → Bool
runs t r = list_any (λ x. is_thread t x && is_some x.worker && not (is_some x.ended)) r.threads

-- thread t is started, and has neither ended nor left
abbrev pub stays : ℕ → Standing → Bool
stays t r = list_any (λ x. is_thread t x && is_some x.worker && not (is_some x.ended) && not x.left) r.threads

-- a start names the thread that is started, whoever asks
abbrev pub start_row : Standing → Option Thread → Row
start_row r None = (change_if (is_over r) Reply.RunOver (Reply.NotYet Request.Start), None)
start_row r (Some x) = (Reply.Started x.number x.alias x.goal, Some (x.number, Act.Start))

-- an end is told; one that ends the run is asked for by HaltRun alone
abbrev pub finish_row : ThreadEnd → ℕ → Row
finish_row ThreadEnd.True t = (Reply.Done, Some (t, Act.End ThreadEnd.True))
finish_row ThreadEnd.False t = (Reply.Done, Some (t, Act.End ThreadEnd.False))
finish_row (ThreadEnd.Exception b) t = (Reply.Done, Some (t, Act.End (ThreadEnd.Exception b)))
finish_row ThreadEnd.Budget t = (Reply.Done, Some (t, Act.End ThreadEnd.Budget))
finish_row (ThreadEnd.Halt n) t = (Reply.NotYet (Request.Finish (ThreadEnd.Halt n)), None)

-- a clause that is alive is erased, by a batch of its own
abbrev pub erase_row : Bool → ClauseName → ℕ → Row
erase_row true x t = (Reply.Erased, Some (t, Act.Batch (Erase x ∷ [])))
erase_row false x t = (Reply.Gone, None)

-- where the run is over, a thread that has neither ended nor left leaves; of another one there is nothing to add
abbrev pub leave_row : Standing → ℕ → Row
leave_row r t = change_if (is_over r) (Reply.Done, change_if (stays t r) (Some (t, Act.Left)) None) (Reply.NotYet Request.Leave, None)

abbrev pub row : Request → ℕ → Reading → Row
row Request.Start t r = start_row r.standing (find is_new r.standing.threads)
row (Request.Publish us) t r = (Reply.Published, Some (t, Act.Batch us))
row (Request.EraseOne x) t r = erase_row (is_alive x r.updates) x t
row (Request.Finish e) t r = finish_row e t
row (Request.HaltRun n) t r = (Reply.Done, Some (t, Act.Halt n))
row Request.Leave t r = leave_row r.standing t

-- a worker asks it, and no thread
abbrev pub is_workers : Request → Bool
is_workers Request.Start = true
is_workers (Request.Publish us) = false
is_workers (Request.EraseOne x) = false
is_workers (Request.Finish e) = false
is_workers (Request.HaltRun n) = false
is_workers Request.Leave = true

-- it says that a thread goes no further
abbrev pub is_leave : Request → Bool
is_leave Request.Start = false
is_leave (Request.Publish us) = false
is_leave (Request.EraseOne x) = false
is_leave (Request.Finish e) = false
is_leave (Request.HaltRun n) = false
is_leave Request.Leave = true

-- a thread that is not started, or has ended, waits
abbrev pub served_while : Request → ℕ → Reading → Row
served_while q t r = change_if (is_workers q || runs t r.standing) (row q t r) (Reply.NotYet q, None)

-- where a thread has ended the run, all stop, but for those that leave
unfoldable pub served : Request → ℕ → Reading → Row
served q t r = change_if (is_halted r.standing && not (is_leave q)) (Reply.Stopped, None) (served_while q t r)

-- the entry of a row, asked by worker w
abbrev pub entries_of : ℕ → Option (ℕ × Act) → List Entry
entries_of w None = []
entries_of w (Some x) = record { worker = w; thread = x.0; act = x.1 } ∷ []

-- what a request adds to a journal, and its reply
abbrev pub adds : List Entry → ℕ → ℕ → Request → List Entry
adds h w t q = entries_of w (served q t (reading h)).1

abbrev pub reply_to : List Entry → ℕ → Request → Reply
reply_to h t q = (served q t (reading h)).0
