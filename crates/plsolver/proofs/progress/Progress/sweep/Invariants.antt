use Rattle.std.proofs.Common.{◌≡◌}
use Rattle.plprogram.specs.Program.{Program}
use Rattle.plstack.specs.State.{walks_in}
use Rattle.plsolver.specs.Asking.{SeeksOn}
use Rattle.plsolver.specs.Going.{sweeps_left, IsSweeping}
use Rattle.plsolver.specs.Solver.{IsOf, Keeps}
use Rattle.plsolver.proofs.progress.Progress.sweep.Given as goal

abbrev pub invariant-sweep : goal.invariant-sweep
invariant-sweep l = record {
  keeps : (P : Program) → IsOf P l.fn.self.machine → Keeps P l.fn.self l.self;
  of : (P : Program) → IsOf P l.fn.self.machine → IsOf P l.self.machine;
  sweeps : IsSweeping l.self;
  sought : SeeksOn l.fn.self.machine l.self.machine;
  walks : walks_in l.self.machine.stack ≡ walks_in l.fn.self.machine.stack;
}

abbrev pub decreases-sweep : goal.decreases-sweep
decreases-sweep l = sweeps_left l.self.machine l.self.machine.mode
