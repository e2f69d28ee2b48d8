use Rattle.std.proofs.Common.{◌≡◌, ◌+◌, ◌-◌, ◌<◌, ◌≤◌}
use Rattle.plsolver.specs.Advancing.{AdvancesTo}
use Rattle.plsolver.specs.Solver.{latest_view, GoesTo, IsOf}
use Rattle.plsolver.proofs.progress.Progress.advance.Given as goal

abbrev pub invariant-loop-due : goal.invariant-loop-due
invariant-loop-due l = record {
  goes : GoesTo l.program l.fn.self l.self;
  of : IsOf l.program l.self.machine;
  used : l.self.used ≤ l.until;
  until : l.until ≤ l.fn.self.limit;
  few : l.until ≤ l.fn.self.used + l.fuel;
  all : l.until < l.fn.self.limit → l.until ≡ l.fn.self.used + l.fuel;
  rises : l.fn.self.used ≤ l.self.used;
  within : l.self.used ≤ l.fn.self.limit;
  limit : l.self.limit ≡ l.fn.self.limit;
  places : l.self.places.items ≡ l.fn.self.places.items;
  latest : latest_view l.self ≡ latest_view l.fn.self;
  advances : AdvancesTo l.program l.fn.self l.self;
}

abbrev pub decreases-loop-due : goal.decreases-loop-due
decreases-loop-due l = l.until - l.self.used
