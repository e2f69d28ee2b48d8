-- What makes a batch in a journal that is legal.
use Rattle.std.specs.Prelude.{◌≡◌, ◌≢◌, List, [], ◌∷◌, ◌++◌, Some, None, IsTrue}
use Rattle.plevent.specs.declared.request.Request.{Request}
use Rattle.plevent.specs.declared.update.Update.{Update}
use Rattle.plevent.specs.declared.update.Update.TheVariants.{Erase}
use Rattle.plevent.specs.declared.act.Act.{Act}
use Rattle.plevent.specs.declared.act.Entry.{Entry}
use Rattle.plevent.specs.Alive.{is_alive}
use Rattle.plevent.specs.Reading.{Reading, reading}
use Rattle.plevent.specs.Rows.{runs}
use Rattle.plhist.specs.Legal.{worker_of, Legal}

-- the batch of a request: of a publication the updates that it names, and of an erasure the erasure of its clause alone, which is alive
abbrev pub MakesBatch : Reading → Request → List Update → Type 0
MakesBatch r (Request.Publish vs) us = us ≡ vs
MakesBatch r (Request.EraseOne x) us = (us ≡ Erase x ∷ []) × IsTrue (is_alive x r.updates)
MakesBatch r q us = ⊥

-- An entry is a batch that its own thread asked for: the worker that started the thread made it, the thread had not ended, and no thread
-- had ended the run.
pub record IsAskedBatch (r : Reading) (e : Entry) (us : List Update) : Type 0 where
  pub asked : Request
  pub makes : MakesBatch r asked us
  pub worker : worker_of e.thread r.standing.threads ≡ Some e.worker
  pub running : IsTrue (runs e.thread r.standing)
  pub going : r.standing.halted ≡ None

-- Behind the first entry, which is the program's first batch, each batch was asked for so, and nothing else makes one.
abbrev pub EachBatchIsAsked : Type 0
EachBatchIsAsked = (first : List Update) (h before behind : List Entry) (e : Entry) (us : List Update) → Legal first h →
    h ≡ before ++ e ∷ behind → before ≢ [] → e.act ≡ Act.Batch us → IsAskedBatch (reading before) e us
