use Rattle.std.proofs.Common.{◌≡◌, None, take}
use Rattle.std.specs.HashMap.{get}
use Rattle.plevent.specs.Alive.{change_if}
use Rattle.pltx.specs.declared.target.Target.{Target}
use Rattle.pltx.specs.Own.{erased_in, same_target}
use Rattle.pltx.proofs.marks.unmark.Given as goal

abbrev pub invariant-loop-update : goal.invariant-loop-update
invariant-loop-update l = (t : Target) → get same_target l.marks t ≡ change_if (erased_in t (take l.update-index l.updates)) None (get same_target l.initial.marks t)
