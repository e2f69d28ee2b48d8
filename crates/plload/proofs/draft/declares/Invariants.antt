use Rattle.std.proofs.Common.{◌≡◌, map, take}
use Rattle.plevent.specs.declared.update.Update.TheVariants.{Declare}
use Rattle.plload.proofs.draft.declares.Given as goal

abbrev pub invariant-loop-indicator : goal.invariant-loop-indicator
invariant-loop-indicator l = l.updates.items ≡ map Declare (take l.indicator-index l.indicator-items)
