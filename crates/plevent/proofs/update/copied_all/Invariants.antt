use Rattle.std.proofs.Common.{◌≡◌, take}
use Rattle.plevent.proofs.update.copied_all.Given as goal

abbrev pub invariant-loop-update : goal.invariant-loop-update
invariant-loop-update l = l.copies.items ≡ take l.update-index l.updates
