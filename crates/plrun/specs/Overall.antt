-- All runs, between two starts.
use Rattle.std.specs.Prelude.{◌≡◌, ℕ, List, [], ◌∷◌}
use Rattle.plevent.specs.declared.update.Update.{Update}
use Rattle.plevent.specs.declared.act.Entry.{Entry}
use Rattle.plevent.specs.Search.{Search}
use Rattle.plhist.specs.declared.history.Run.{Run}
use Rattle.plhist.specs.Legal.{opening, Legal, ByOneWorker, Over}
use Rattle.plhist.specs.Runs.{AllFollow, OneEach}

-- a legal journal of a run that is over, by one worker, and for each thread one run, which follows its search
pub record IsHistory (first : List Update) (searches : ℕ → Search) (limit : ℕ) (h : List Entry) (runs : List Run) : Type 0 where
  pub legal : Legal first h
  pub workers : ByOneWorker h
  pub over : Over h
  pub follow : AllFollow searches limit h runs
  pub each : OneEach h runs
