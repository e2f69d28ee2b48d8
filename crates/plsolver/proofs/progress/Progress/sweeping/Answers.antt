use Rattle.std.proofs.Common.{refl, ap, ◌∙◌}
use Rattle.plmachine.specs.declared.machine.Mode.TheVariants as modes
use Rattle.plsolver.proofs.progress.Progress.sweeping.Goals as goal

pub returns : goal.returns
returns c = (c.in-Sweep.sweep, c.in-Find.is ∙ ap modes.Find c.in-Sweep.is, refl, refl)
