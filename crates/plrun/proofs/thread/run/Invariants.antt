use Rattle.std.proofs.Common.{◌≡◌}
use Rattle.plworld.specs.Worlds.{IsServing}
use Rattle.plrun.specs.Threads.{IsThread}
use Rattle.plrun.proofs.thread.run.Given as goal

abbrev pub invariant-turns : goal.invariant-turns
invariant-turns l = record { runs : IsThread l.program l.world.journal l.running; limit : l.running.solver.limit ≡ l.fn.running.solver.limit; serves : IsServing l.world }
