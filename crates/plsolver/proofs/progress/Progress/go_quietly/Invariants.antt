use Rattle.std.proofs.Common.{◌≡◌}
use Rattle.plmachine.specs.Machine.{IsPlain}
use Rattle.plsolver.specs.Asking.{Further}
use Rattle.plsolver.specs.Solver.{latest_view, GoesTo, IsOf}
use Rattle.plsolver.proofs.Runs.{load}
use Rattle.plsolver.proofs.progress.Progress.go_quietly.Given as goal

abbrev pub invariant-loop-due : goal.invariant-loop-due
invariant-loop-due l = record {
  goes : GoesTo l.program l.fn.self l.self;
  of : IsOf l.program l.self.machine;
  plain : IsPlain l.self.machine.mode;
  used : l.self.used ≡ l.fn.self.used;
  limit : l.self.limit ≡ l.fn.self.limit;
  places : l.self.places.items ≡ l.fn.self.places.items;
  latest : latest_view l.self ≡ latest_view l.fn.self;
  walks : Further l.fn.self.machine.stack l.self.machine.stack;
}

abbrev pub decreases-loop-due : goal.decreases-loop-due
decreases-loop-due l = load l.program l.self
