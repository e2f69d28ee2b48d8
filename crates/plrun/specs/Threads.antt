-- A thread that was started, with its solver.
use Rattle.std.specs.Prelude.{◌≤◌, List, length}
use Rattle.plevent.specs.declared.request.ThreadEnd.{ThreadEnd}
use Rattle.plevent.specs.declared.act.Entry.{Entry}
use Rattle.plhist.specs.declared.history.Run.{Run}
use Rattle.plhist.specs.declared.history.RunEnd.{RunEnd}
use Rattle.plprogram.specs.Program.{Program}
use Rattle.plsearch.specs.Starts.{searches}
use Rattle.plsolver.specs.Solver.{latest_view, rest_of, IsOf}
use Rattle.plrun.specs.declared.thread.Running.{Running}
use Rattle.plrun.specs.Going.{IsRunning, IsStarted}
use Rattle.plrun.specs.Halts.{told_places}

-- it was begun with the program, has no view of a later place, follows its search within the limit of steps of its solver, and goes on
pub record GoesOn (P : Program) (h : List Entry) (r : Running) : Type 0 where
  pub of : IsOf P r.solver.machine
  pub latest : latest_view r.solver ≤ length h
  pub runs : let s = r.solver in IsRunning P.first (searches P s.limit h r.thread) s.limit (λ v. rest_of P v s) s.used h r.thread s.places.items

-- it goes on, or has ended the run
pub record IsThread (P : Program) (h : List Entry) (r : Running) : Type 0 where
  pub of : IsOf P r.solver.machine
  pub latest : latest_view r.solver ≤ length h
  pub started : let s = r.solver in IsStarted P.first (searches P s.limit h r.thread) s.limit (λ v. rest_of P v s) s.used h r.thread s.places.items

-- the run of a thread that comes to this end now
abbrev pub run_now : List Entry → Running → ThreadEnd → Run
run_now h r e =
    let s = r.solver in record { thread = r.thread; places = told_places e h s.places.items; steps = s.used; «end» = RunEnd.Ended e; output = s.machine.out.items }
