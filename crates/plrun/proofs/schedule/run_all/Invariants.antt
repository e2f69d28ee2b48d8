use Rattle.std.proofs.Common.{◌-◌, length}
use Rattle.plsearch.specs.Starts.{searches}
use Rattle.plworld.specs.Worlds.{IsServing}
use Rattle.plrun.proofs.schedule.run_all.Given as goal
use Rattle.plrun.proofs.Start.{Stage}

abbrev pub invariant-loop-runs : goal.invariant-loop-runs
invariant-loop-runs l = record { stage : Stage l.program.first (searches l.program l.steps) l.steps l.world.journal l.runs.items; serves : IsServing l.world }

abbrev pub decreases-loop-runs : goal.decreases-loop-runs
decreases-loop-runs l = 1 - length l.runs.items
