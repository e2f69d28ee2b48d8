use Rattle.std.proofs.Common.{◌≡◌, take}
use Rattle.plops.specs.Listing.{current_ops}
use Rattle.plops.proofs.table.OpTable.list.Given as goal

abbrev pub invariant-loop-entry : goal.invariant-loop-entry
invariant-loop-entry l = l.ops.items ≡ current_ops (take l.entry-index l.entry-items)
