use Rattle.std.proofs.Common.{◌≡◌, take}
use Rattle.pltx.specs.Own.{all_made}
use Rattle.plviews.proofs.layer.make_each.Given as goal

abbrev pub invariant-loop-update : goal.invariant-loop-update
invariant-loop-update l = l.own ≡ all_made (take l.update-index l.updates) l.initial.own
