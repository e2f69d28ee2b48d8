use Rattle.std.proofs.Common.{refl}
use Rattle.plmachine.specs.declared.machine.SweepSpot.TheVariants as sweeps
use Rattle.plviews.specs.declared.lookup.Reach.TheVariants as reaches
use Rattle.pltx.specs.declared.own.OwnCursor.TheVariants.{Start}
use Rattle.plsolver.proofs.progress.Progress.begin_sweep.Goals as goal

pub returns : goal.returns
returns c = (record { view = c.args.view; spot = sweeps.Seek (reaches.Front Start); updates = c.new.result }, refl, refl, refl, c.new.ensures.items)
