-- A journal is legal: it begins with the first batch, and each later entry is the act of a request
-- of one who may ask it. A run is over.
use Rattle.std.specs.Prelude.{◌≡◌, ℕ, ◌≤◌, List, [], ◌∷◌, Option, Some, option_and_then, find, IsTrue, All, drop}
use Rattle.plevent.specs.declared.request.Request.{Request}
use Rattle.plevent.specs.declared.update.Update.{Update}
use Rattle.plevent.specs.declared.act.Act.{Act}
use Rattle.plevent.specs.declared.act.Entry.{Entry}
use Rattle.plevent.specs.declared.standing.Thread.{Thread}
use Rattle.plevent.specs.declared.standing.Standing.{Standing}
use Rattle.plevent.specs.Reading.{Reading, reading, read, is_thread}
use Rattle.plevent.specs.Rows.{served, is_over}

-- the worker that started thread t
abbrev pub worker_of : ℕ → List Thread → Option ℕ
worker_of t ts = option_and_then (λ x. x.worker) (find (is_thread t) ts)

-- each of the 16 workers may ask Start; for a thread, the worker that started it asks
abbrev pub MayAsk : Standing → ℕ → ℕ → Request → Type 0
MayAsk r w t Request.Start = (1 ≤ w) × (w ≤ 16)
MayAsk r w t (Request.Publish us) = worker_of t r.threads ≡ Some w
MayAsk r w t (Request.EraseOne x) = worker_of t r.threads ≡ Some w
MayAsk r w t (Request.Finish e) = worker_of t r.threads ≡ Some w
MayAsk r w t (Request.HaltRun n) = worker_of t r.threads ≡ Some w
MayAsk r w t Request.Leave = worker_of t r.threads ≡ Some w

-- an entry is the act of a request that may be asked
pub record IsDue (r : Reading) (e : Entry) : Type 0 where
  pub asked : Request
  pub thread : ℕ
  pub may : MayAsk r.standing e.worker thread asked
  pub made : (served asked thread r).1 ≡ Some (e.thread, e.act)

abbrev pub AllDue : Reading → List Entry → Type 0
AllDue r [] = Unit {0}
AllDue r (e ∷ es) = IsDue r e × AllDue (read r e) es

-- the entry of the first batch
abbrev pub opening : List Update → Entry
opening first = record { worker = 0; thread = 0; act = Act.Batch first }

pub record Legal (first : List Update) (h : List Entry) : Type 0 where
  pub later : List Entry
  pub opens : h ≡ opening first ∷ later
  pub due : AllDue (reading (opening first ∷ [])) later

-- a thread has ended the run, or each was started and has ended
abbrev pub Over : List Entry → Type 0
Over h = IsTrue (is_over (reading h).standing)

-- worker 1 made each entry behind the first
abbrev pub ByOneWorker : List Entry → Type 0
ByOneWorker h = All (λ e. e.worker ≡ 1) (drop 1 h)
