use Rattle.std.proofs.Common.{sym, subst}
use Rattle.plops.specs.Checks.{IsTable}
use Rattle.plops.proofs.Given.{iso_is_table}
use Rattle.plops.proofs.table.OpTable.iso.Goals as goal

pub invariant_of-result : goal.invariant_of-result
invariant_of-result c = subst IsTable (sym c.in_ok-entries.ensures) iso_is_table
