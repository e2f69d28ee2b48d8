use Rattle.std.proofs.Common.{◌≡◌, take}
use Rattle.plstore.specs.Plan.{updates_of, AllPlanned}
use Rattle.plstore.proofs.plan.plan.Given as goal

abbrev pub invariant-loop-update : goal.invariant-loop-update
invariant-loop-update l = (updates_of l.plan.items ≡ take l.update-index l.updates) × AllPlanned l.plan.items
