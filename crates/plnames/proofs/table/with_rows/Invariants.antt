use Rattle.std.proofs.Common.{◌≡◌, fold, map, take}
use Rattle.plnames.specs.Entries.{entry_row, noted_row, put}
use Rattle.plnames.proofs.table.with_rows.Given as goal

abbrev pub invariant-loop-name : goal.invariant-loop-name
invariant-loop-name l = map entry_row l.kinds.entries ≡ fold put (map entry_row l.fn.kinds.entries) (map noted_row (take l.name-index l.rows))
